pub mod Readings
pub mod Looked
pub mod Onward
mod Roots
mod Members
pub mod Opened
