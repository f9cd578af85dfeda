pub mod Weighed
pub mod Doubles
pub mod Corridor
pub mod Hints
pub mod Pairs
