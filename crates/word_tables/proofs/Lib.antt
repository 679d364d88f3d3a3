pub mod Lending
pub mod Joining
