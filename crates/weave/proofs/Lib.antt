mod Passing
mod Places
mod Hearing
mod Runs
mod Working
mod Changing
mod Linking
mod Deals
mod Parting
pub mod Round
mod OneRound
mod Waiting
mod Returns
pub mod Going
mod Delivering
mod Starting
mod Queues
mod Ending
pub mod Sent
