mod Breaking
mod Counts
mod Covered
mod Keeping
mod Numbers
pub mod Sectors
