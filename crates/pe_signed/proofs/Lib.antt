pub mod NumberedSections
pub mod Placing
pub mod Found
pub mod SectionsLeft
pub mod RangesLeft
pub mod FreshRanges
pub mod SignedFile
