pub mod Stores
pub mod Hearings
pub mod Nexts
pub mod Blocks
pub mod Starts
