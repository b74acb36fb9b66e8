pub mod Step
pub mod Lines
pub mod Causes
pub mod Deciding
pub mod Looked
