pub mod Routes
pub mod Found
pub mod Tables
pub mod Joined
pub mod Rows
