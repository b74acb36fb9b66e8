pub mod Ready
pub mod Registers
pub mod Seals
pub mod Standings
pub mod Spoils
