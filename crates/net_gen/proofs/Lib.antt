pub mod Written
pub mod NodeLinks
pub mod Short
pub mod Names
pub mod LineForms
pub mod Steps
pub mod Leads
