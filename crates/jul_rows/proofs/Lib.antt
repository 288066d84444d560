pub mod CutLaws
pub mod FillingLaws
pub mod TallyLaws
pub mod BalanceLaws
pub mod GatheringLaws
pub mod VisitLaws
pub mod MirrorLaws
