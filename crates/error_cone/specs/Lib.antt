pub mod Ways
pub mod Cone
pub mod Courses
