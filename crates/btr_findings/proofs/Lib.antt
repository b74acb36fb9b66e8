pub mod Adding
mod Numbers
pub mod Rules
pub mod Sets
pub mod Onces
pub mod SectorRuns
pub mod Setting
mod Taking
