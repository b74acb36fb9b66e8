pub mod Opened
pub mod Stated
pub mod Sure
pub mod Opening
pub mod Trial
pub mod Shown
