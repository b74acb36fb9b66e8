pub mod Complete
pub mod Example
