pub mod Places
pub mod Band
pub mod Hands
