pub mod EntryLemmas
pub mod LastSeen
