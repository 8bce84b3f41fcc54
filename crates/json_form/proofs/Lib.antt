pub mod Keys
pub mod EachOf
mod Ascending
pub mod Plain
