pub mod Frontiers
pub mod Heaps
pub mod Orders
pub mod Tournaments
