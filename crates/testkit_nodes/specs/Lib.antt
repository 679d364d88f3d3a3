pub mod Later
pub mod Starts
