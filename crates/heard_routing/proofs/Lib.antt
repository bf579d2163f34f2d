pub mod EntryLemmas
pub mod ExactLemmas
pub mod HeardLemmas
pub mod LinkLemmas
pub mod ListedLemmas
pub mod LookLemmas
pub mod TableLemmas
