pub mod Edges
pub mod EdgeMaps
pub mod Covers
pub mod Pushes
pub mod Pulls
