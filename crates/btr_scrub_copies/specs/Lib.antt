pub mod Blocks
pub mod Writes
pub mod Syncing
pub mod Turns
pub mod Mending
pub mod Fresh
pub mod Freshening
