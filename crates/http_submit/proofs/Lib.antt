mod FieldLemmas
mod KnownLemmas
pub mod OrderLemmas
pub mod OwingLemmas
mod PoolLemmas
mod PostLemmas
