pub mod Shapes
pub mod Drafts
pub mod Written
pub mod Laws
pub mod BuiltText
