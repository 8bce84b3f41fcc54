pub mod ConstantRows
pub mod Steps
pub mod FindOffset
pub mod Texts
