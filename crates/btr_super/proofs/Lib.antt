pub mod Reading
pub mod Maximum
pub mod Copies
pub mod Looks
pub mod Comparison
