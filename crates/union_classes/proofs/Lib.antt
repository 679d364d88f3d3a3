mod CoverLaws
mod ConstLaws
