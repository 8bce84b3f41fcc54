pub mod SignedRanges
pub mod SectionOrder
pub mod NumberedSections
pub mod SectionsLeft
pub mod RangesLeft
pub mod SignedFile
