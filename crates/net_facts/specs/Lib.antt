pub mod Misses
pub mod MissingLaws
pub mod MarkLaws
