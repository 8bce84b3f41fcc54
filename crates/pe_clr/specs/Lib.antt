pub mod ClrConstants
pub mod Cor20
pub mod Storage
pub mod Clr
pub mod Streams
pub mod StreamsView
