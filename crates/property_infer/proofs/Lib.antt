pub mod ActionLaws
pub mod Ways
pub mod Leaves
