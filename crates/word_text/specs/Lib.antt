pub mod Fronts
pub mod PathNames
pub mod Parts
pub mod Forms
pub mod FormLaws
