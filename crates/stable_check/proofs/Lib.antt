pub mod Optima
pub mod TableRows
pub mod Paths
pub mod Noted
