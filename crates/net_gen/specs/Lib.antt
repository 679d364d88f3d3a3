pub mod Numbers
pub mod Draws
pub mod Generated
pub mod Networks
