pub mod Steps
pub mod Order
pub mod Lay
pub mod Threads
