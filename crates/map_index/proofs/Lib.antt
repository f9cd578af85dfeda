pub mod Dropping
pub mod Listed
pub mod AsRead
pub mod Indexing
pub mod Stepping
pub mod InBox
