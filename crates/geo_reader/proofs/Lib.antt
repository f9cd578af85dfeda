pub mod Holding
pub mod Collected
pub mod Flats
pub mod RingLaws
pub mod GeoLaws
