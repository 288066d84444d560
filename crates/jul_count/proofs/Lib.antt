pub mod SumLaws
pub mod ReachLaws
pub mod AddingLaws
pub mod DrainLaws
pub mod CountedLaws
