pub mod Merging
pub mod Merged
pub mod Timing
pub mod UniqueLaws
pub mod MergeLaws
pub mod MergedLaws
