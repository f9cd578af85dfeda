pub mod Run
pub mod Thinned
pub mod Laws
pub mod Finder
pub mod FinderMemory
pub mod Rooms
pub mod UnderWay
