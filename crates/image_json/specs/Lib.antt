pub mod RowJson
pub mod ElfJson
pub mod MachJson
pub mod FatJson
pub mod ImageJson
