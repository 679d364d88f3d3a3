pub mod LinkLemmas
pub mod Parts
