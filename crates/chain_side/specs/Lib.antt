pub mod Along
pub mod Sides
pub mod Laws
