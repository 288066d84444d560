pub mod FirstHeld
pub mod Peels
pub mod PeelPlaces
pub mod PeelMoves
pub mod PeelWork
pub mod Windows
