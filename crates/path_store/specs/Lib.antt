pub mod PathOf
pub mod Trails
