pub mod AddressRanges
pub mod Orders
pub mod Groups
pub mod Devices
pub mod Bounds
pub mod Given
pub mod Items
