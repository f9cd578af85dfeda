pub mod Items
pub mod Listing
pub mod MapIndex
pub mod Drops
pub mod IndexedMap
