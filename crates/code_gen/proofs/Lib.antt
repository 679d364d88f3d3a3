mod Acting
mod Labels
mod Orders
mod Running
mod Sets
mod Shared
mod Symbols
pub mod Widths
