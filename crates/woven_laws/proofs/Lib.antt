pub mod Replays
pub mod Counting
