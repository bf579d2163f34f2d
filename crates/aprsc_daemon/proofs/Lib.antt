pub mod ActLemmas
pub mod BringLemmas
pub mod CauseLemmas
pub mod DrillLemmas
pub mod EventLemmas
pub mod JournalLemmas
pub mod LoadLemmas
pub mod PortLemmas
pub mod ReachLemmas
mod Rows
pub mod RunLemmas
pub mod SendingLemmas
pub mod ServeLemmas
pub mod WordsLemmas
pub mod WriteLemmas
