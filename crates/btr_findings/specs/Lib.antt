pub mod Findings
pub mod Sectors
pub mod Runs
