pub mod Parts
pub mod PartsLeft
pub mod Numbers
pub mod Lists
pub mod Usages
pub mod Words
