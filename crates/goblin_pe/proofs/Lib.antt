pub mod Callbacks
pub mod LoadConfigFront
