pub mod MarkLaws
pub mod SearchLaws
pub mod OfferLaws
