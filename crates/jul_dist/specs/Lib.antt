pub mod Relaxing
pub mod Draws
pub mod Moving
pub mod Advancing
