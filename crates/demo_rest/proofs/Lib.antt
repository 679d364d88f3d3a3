pub mod Nets
pub mod Sums
pub mod Groups
pub mod Starts
pub mod Room
pub mod Runs
