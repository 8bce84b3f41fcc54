pub mod Input
pub mod Views
pub mod Lines
pub mod Outcomes
