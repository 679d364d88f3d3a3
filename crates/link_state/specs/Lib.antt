pub mod Tables
pub mod Routes
