pub mod Streams
pub mod PlainValues
pub mod Fields
