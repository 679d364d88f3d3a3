pub mod Alike
pub mod AlikeLaws
pub mod Laws
pub mod NodeLaws
pub mod Runs
pub mod TurnLaws
pub mod Turns
