pub mod Rows
pub mod MicELemmas
pub mod GrammarLemmas
