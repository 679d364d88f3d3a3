pub mod Found
pub mod Numbered
pub mod Ranges
pub mod Keys
pub mod KeyOrder
pub mod Fixed
pub mod Queue
pub mod State
