mod Decimals
pub mod Files
pub mod Pieces
