pub mod Sums
pub mod Made
pub mod SideLaws
pub mod SumLaws
pub mod LabelLaws
