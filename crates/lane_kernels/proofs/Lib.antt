pub mod LaneBits
pub mod LaneSizes
pub mod Groups
pub mod Between
pub mod Bands
