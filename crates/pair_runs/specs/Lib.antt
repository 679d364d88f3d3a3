pub mod Unfinished
pub mod ImprovedValues
pub mod BestOfTwo
