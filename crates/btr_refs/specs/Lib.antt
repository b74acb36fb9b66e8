pub mod RefKey
pub mod Counts
pub mod Listed
pub mod Extents
pub mod Misusing
pub mod Forward
pub mod Differences
