pub mod Distinct
pub mod Examples
pub mod Lookup
pub mod Machines
pub mod NameLaws
