pub mod ConfLemmas
mod GrowthLemmas
mod GrownLemmas
pub mod LayoutLemmas
mod LineLemmas
mod Rows
pub mod SoundLemmas
