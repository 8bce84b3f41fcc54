pub mod View
pub mod ViewRows
pub mod SectionSeen
pub mod ViewSeen
pub mod Viewed
