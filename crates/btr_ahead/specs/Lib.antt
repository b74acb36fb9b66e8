pub mod Ahead
pub mod Reader
