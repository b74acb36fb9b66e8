pub mod Field
pub mod Slices
pub mod Solutions
pub mod Laws
pub mod Multiples
pub mod Ways
