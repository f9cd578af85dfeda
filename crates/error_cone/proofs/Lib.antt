pub mod Slopes
pub mod Squares
pub mod Near
pub mod Cones
pub mod Courses
