pub mod Filling
pub mod Seen
