pub mod Marks
pub mod Stepping
