pub mod Placed
pub mod Made
pub mod Unique
pub mod Sent
