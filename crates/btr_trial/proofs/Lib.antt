pub mod Patterns
pub mod Comparisons
pub mod Shelves
pub mod Filesystems
pub mod Checks
pub mod Listings
pub mod Scrubs
pub mod Trials
