pub mod Block
pub mod LeafItem
pub mod Node
