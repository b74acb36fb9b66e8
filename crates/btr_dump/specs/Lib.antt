pub mod Showing
pub mod Pieces
pub mod Stops
pub mod Trees
