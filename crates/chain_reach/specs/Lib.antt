pub mod Reach
pub mod Steps
pub mod Extents
pub mod Parts
pub mod Blocks
pub mod Laws
