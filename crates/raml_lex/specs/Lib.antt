pub mod Gaps
pub mod Numbers
pub mod Places
pub mod Sources
pub mod Tokens
pub mod Views
pub mod Lexers
pub mod KnownFronts
