pub mod Scoped
pub mod ScopedLaws
