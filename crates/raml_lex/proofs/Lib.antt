pub mod Fronts
pub mod Gaps
pub mod Places
pub mod Sources
pub mod Lexing
pub mod WordBytes
mod KnownFronts
