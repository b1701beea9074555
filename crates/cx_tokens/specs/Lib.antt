pub mod Brackets
pub mod Digraphs
pub mod Nodes
pub mod Shapes
pub mod Simplified
pub mod Sublists
