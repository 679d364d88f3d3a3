pub mod Numbers
pub mod Checks
pub mod Lists
pub mod ArcSearch
pub mod WalkWeights
pub mod WalkRows
pub mod Offering
