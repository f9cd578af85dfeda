pub mod Levels
pub mod Laws
pub mod LevelMemory
pub mod Places
pub mod Texts
pub mod UnderWay
pub mod Written
