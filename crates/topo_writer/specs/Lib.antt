pub mod Texts
pub mod ArcsText
pub mod Splice
pub mod Reading
pub mod Fits
pub mod Laws
