pub mod Words
pub mod Items
pub mod Names
pub mod NameLaws
pub mod TableLaws
pub mod Examples
