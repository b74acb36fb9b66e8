pub mod Bits
pub mod Pieces
pub mod Region
pub mod Loans
pub mod Hand
