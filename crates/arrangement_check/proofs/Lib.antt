pub mod Given
pub mod LeastSoFar
pub mod Lesser
pub mod Marking
pub mod Nearby
pub mod Positions
pub mod Walking
