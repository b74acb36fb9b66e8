pub mod Blocks
pub mod Rows
pub mod Listing
pub mod Answers
pub mod Shelves
pub mod Trays
