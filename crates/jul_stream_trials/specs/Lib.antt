pub mod Errors
pub mod Cases
pub mod Checksums
pub mod Lines
pub mod Readings
pub mod Reports
pub mod Running
