mod Extends
pub mod Agreeing
mod Journeys
pub mod Honests
pub mod Held
mod Alike
mod Headlines
mod Orders
mod Settling
mod Leading
mod Orderlies
mod Tellings
pub mod Samples
pub mod Emitting
pub mod Doing
pub mod Goings
pub mod Stopping
pub mod Storing
pub mod Rans
mod Treats
pub mod Listings
pub mod Cycles
pub mod Writings
