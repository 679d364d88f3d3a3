pub mod Floods
pub mod FloodLaws
