pub mod WedgePhases
pub mod OneDelivery
pub mod TwoNodes
pub mod WedgeChoices
pub mod WedgeStates
pub mod WedgeRuns
