pub mod ConfLemmas
pub mod ProgressLemmas
