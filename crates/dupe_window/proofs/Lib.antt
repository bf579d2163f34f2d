pub mod PackedLemmas
pub mod PartLemmas
pub mod RecalledLemmas
pub mod WindowLemmas
