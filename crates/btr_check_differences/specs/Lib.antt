pub mod Ranges
pub mod Differing
pub mod Reading
pub mod Law
