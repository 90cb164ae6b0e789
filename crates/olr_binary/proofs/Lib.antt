mod Common
pub mod LayoutLemmas
pub mod PlaceLemmas
pub mod PointLemmas
pub mod EncodedLemmas
pub mod TextLemmas
