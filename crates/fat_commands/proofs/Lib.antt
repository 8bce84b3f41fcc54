pub mod FileLaws
pub mod JoinLaws
