pub mod Serving
pub mod Completing
pub mod Sealed
pub mod Restorable
pub mod Repairable
