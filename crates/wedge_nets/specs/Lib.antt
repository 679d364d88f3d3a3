pub mod Gadgets
pub mod GadgetTexts
pub mod Small
