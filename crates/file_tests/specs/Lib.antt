pub mod SmallObjects
