pub mod Features
pub mod Super
pub mod Compared
pub mod Newest
pub mod Slot
