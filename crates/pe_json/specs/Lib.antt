pub mod Answers
pub mod Image
pub mod Inputs
pub mod Views
pub mod Signed
pub mod Clr
pub mod LoadConfig
pub mod Tls
