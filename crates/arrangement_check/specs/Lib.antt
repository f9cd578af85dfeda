pub mod Ends
pub mod Partly
pub mod Least
pub mod Marks
