pub mod Listed
pub mod Cuts
pub mod Filling
pub mod Balance
pub mod Mirrors
pub mod Gathering
pub mod Visits
pub mod Reach
