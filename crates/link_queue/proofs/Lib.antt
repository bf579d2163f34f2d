pub mod BatchLemmas
pub mod LineLemmas
pub mod PieceLemmas
pub mod SoundLemmas
