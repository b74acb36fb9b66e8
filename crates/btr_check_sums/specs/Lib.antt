pub mod Broken
pub mod Sums
pub mod Ranks
pub mod Items
pub mod Putting
