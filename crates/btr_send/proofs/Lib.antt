pub mod Encoding
pub mod Shifting
mod Putting
mod Treats
mod Cycles
mod Sources
mod ReadBack
mod Beside
mod Shorts
mod Sent
mod Long
mod Tables
mod Starts
mod Committed
