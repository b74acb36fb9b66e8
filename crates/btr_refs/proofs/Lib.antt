mod Counting
mod Maps
mod Listing
mod Extents
pub mod Tallying
pub mod Keeping
mod Rows
pub mod UsesKept
mod Using
