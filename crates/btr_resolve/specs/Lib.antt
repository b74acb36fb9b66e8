pub mod Owning
pub mod Paths
pub mod Climbing
pub mod Lines
pub mod Resolving
pub mod Running
pub mod Cursor
pub mod Links
