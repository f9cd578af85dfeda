pub mod Shifts
pub mod Make
pub mod Lattice
pub mod MadeMap
pub mod Laws
