pub mod Common
pub mod RouteEnds
pub mod ReadLemmas
pub mod HeapLemmas
pub mod NoteLemmas
pub mod DistinctLemmas
pub mod WayLemmas
pub mod SearchLemmas
pub mod CutLemmas
mod NearLemmas
mod MarkLemmas
pub mod UniqueLemmas
mod CountingLemmas
