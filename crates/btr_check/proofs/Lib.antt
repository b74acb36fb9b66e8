pub mod AddingUp
mod Adds
pub mod Counts
pub mod Datas
pub mod ExtentTrees
pub mod FileTrees
pub mod Firsts
mod Folding
mod Lists
pub mod Passes
pub mod Openings
pub mod Passing
pub mod Referring
mod Roots
pub mod Runs
pub mod SoundTrees
pub mod Spaces
pub mod Summing
mod Texts
pub mod There
mod Treading
pub mod Wholes
pub mod Aheads
pub mod Wants
pub mod Wanting
