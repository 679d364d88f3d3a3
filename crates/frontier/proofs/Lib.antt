pub mod Climbing
pub mod Filling
pub mod Halves
pub mod HeapMoves
pub mod Judging
