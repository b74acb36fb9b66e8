pub mod Copy
pub mod Shelf
pub mod Seal
pub mod Spoil
