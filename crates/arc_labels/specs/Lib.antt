pub mod Forms
pub mod Neighbours
pub mod Images
pub mod Growing
pub mod Places
