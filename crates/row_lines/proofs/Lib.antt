pub mod PathNames
