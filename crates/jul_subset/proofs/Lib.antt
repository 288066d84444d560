pub mod IncreasingLaws
pub mod MarkLaws
pub mod ViewLaws
pub mod ListLaws
pub mod ChunkLaws
pub mod GroupLaws
pub mod ApplicationLaws
pub mod PickingLaws
