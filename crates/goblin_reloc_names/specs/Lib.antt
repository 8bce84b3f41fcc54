pub mod Families
pub mod Names
pub mod Laws
pub mod Lookup
