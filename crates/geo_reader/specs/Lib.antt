pub mod Geo
pub mod Steps
pub mod Rings
pub mod Geometries
pub mod GeoJson
pub mod Gives
pub mod Flat
pub mod SoFar
