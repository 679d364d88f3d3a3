pub mod Lexical
pub mod LexLaws
