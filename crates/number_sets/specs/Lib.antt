pub mod NumberSets
pub mod NumberLaws
