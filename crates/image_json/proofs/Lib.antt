pub mod Digits
pub mod Rows
pub mod Texts
pub mod MachTexts
pub mod FatTexts
