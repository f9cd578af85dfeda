pub mod Odd
pub mod Border
pub mod Closed
pub mod Texts
pub mod Unused
pub mod Walk
pub mod Written
pub mod Laws
