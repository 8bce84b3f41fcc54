pub mod FirstRefused
pub mod PartCause
pub mod Told
pub mod PartLists
pub mod FatLists
pub mod FatCauses
