pub mod Numbers
pub mod Names
pub mod Runs
pub mod States
pub mod Limits
pub mod Valid
