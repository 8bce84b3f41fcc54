mod Examples
mod FileExamples
mod LayoutLaws
mod WideLaws
mod FirstEntry
pub mod Fronts
mod Places
pub mod OrderLaws
mod Classes
mod PartLaws
pub mod RankLaws
mod WriterLaws
mod AddedLaws
mod AddLaws
mod OwnedLaws
mod SourceLaws
mod Results
pub mod Pairs
pub mod InputLaws
pub mod JoiningLaws
mod StepLaws
mod NamedLaws
mod PutLaws
mod CopyLaws
mod TableLaws
mod FilingLaws
mod LaysLaws
mod FileLaws
mod HoldsLaws
mod TakenLaws
mod ShrinkLaws
mod RemoveLaws
mod SortLaws
mod ExtractLaws
mod OneFileLaws
