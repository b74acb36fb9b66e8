mod Between
pub mod Collecting
pub mod Elements
mod Found
mod Nexts
pub mod Prefixes
pub mod Put
mod Reaching
pub mod Standing
