pub mod Block
pub mod Chunk
pub mod Extents
pub mod Files
pub mod Items
pub mod Read
pub mod Trees
