pub mod Form
pub mod Reply
pub mod Written
