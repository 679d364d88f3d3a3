pub mod Summaries
pub mod CodeLines
mod Appended
