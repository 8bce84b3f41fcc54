mod Examples
mod PartExamples
mod ObjectExamples
mod ShareLaws
mod PatchLaws
mod RelatedLaws
mod SplitLaws
mod ShownLaws
mod RangeLaws
mod SoundLaws
pub mod EntryLaws
mod PlacedLaws
mod KindLaws
pub mod ViewedLaws
pub mod FindingLaws
pub mod DefinitionLaws
mod TwiceLaws
pub mod FaultLaws
pub mod BindingLaws
pub mod WholeLaws
pub mod PlacingLaws
pub mod NamingLaws
pub mod ExportLaws
pub mod ApplyingLaws
pub mod FillingLaws
pub mod RangeSteps
mod StandingLaws
pub mod SpanLaws
pub mod IndexLaws
pub mod HolderLaws
pub mod JudgingLaws
pub mod GroupLaws
pub mod FindLaws
mod Orders
mod Showing
mod FileRows
mod Collected
mod ViewDefinitions
mod FileSymbols
mod FileStanding
mod ElfSymbols
mod ElfSections
mod ElfDefinitions
mod ElfGoals
mod FileRanges
mod ElfPieces
mod MemoryLaw
mod Accepted
mod Applied
mod ElfLaw
mod ElfFits
mod FileTexts
mod FileFormats
mod MachKinds
mod MachAddends
mod MachRows
mod MachSymbols
mod MachSections
mod MachDefinitions
mod MachGoals
mod MachBytes
mod MachContents
mod MachPieces
mod MachAccepted
mod MachLaw
mod MachFits
mod MachSound
mod MachFiles
mod MachExtras
mod MachFields
mod MachFormed
mod MemoryOfFiles
