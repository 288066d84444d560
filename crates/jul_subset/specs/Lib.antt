pub mod Subsets
pub mod Marks
pub mod Views
pub mod Lists
pub mod Chunks
pub mod Applications
pub mod Picks
