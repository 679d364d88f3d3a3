pub mod Choices
pub mod Turns
pub mod Rounds
pub mod Bounded
