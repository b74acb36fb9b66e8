pub mod Inners
pub mod Leaves
pub mod Nodes
pub mod Packing
pub mod Places
pub mod Tables
