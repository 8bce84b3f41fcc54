pub mod Built
pub mod Texts
pub mod Parts
pub mod Joined
