pub mod Files
pub mod Joining
pub mod Extracting
