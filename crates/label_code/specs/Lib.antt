pub mod Effects
pub mod Findings
pub mod Machine
pub mod Orders
pub mod Rows
pub mod Steps
pub mod CodeLaws
