pub mod EventLemmas
pub mod LeftLemmas
pub mod NameLemmas
mod Rows
pub mod StateLemmas
