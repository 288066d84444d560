pub mod Counts
pub mod Adds
pub mod Counting
pub mod Packs
