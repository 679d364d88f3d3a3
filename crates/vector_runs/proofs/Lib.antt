pub mod Phases
mod Alone
mod Grouped
