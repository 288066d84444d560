pub mod Totals
pub mod Added
pub mod Claims
pub mod Runs
pub mod Ranges
pub mod Deques
pub mod Workers
