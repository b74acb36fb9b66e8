pub mod Slots
pub mod Ledger
pub mod Region
pub mod Lending
