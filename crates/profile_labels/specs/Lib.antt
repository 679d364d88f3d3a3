pub mod Labels
pub mod Extremes
pub mod Outlines
pub mod Places
pub mod Growth
pub mod Steps
pub mod Deciding
