pub mod Rows
pub mod Found
pub mod Lists
pub mod RowLaws
