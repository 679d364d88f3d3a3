pub mod Encoding
pub mod EncodingLaws
pub mod Compilation
pub mod Passing
pub mod Codes
pub mod Listings
pub mod Meaning
pub mod Widths
