pub mod FirstParts
pub mod Spelled
pub mod Places
