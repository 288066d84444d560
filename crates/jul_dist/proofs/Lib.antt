pub mod RelaxLaws
pub mod AdvanceLaws
pub mod PlacedLaws
pub mod SettlingLaws
pub mod MovingLaws
pub mod GroupLaws
pub mod SearchLaws
pub mod StartLaws
