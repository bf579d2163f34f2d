pub mod CallLemmas
pub mod CutLemmas
pub mod PlaceLemmas
pub mod ScriptLemmas
pub mod SlotLemmas
pub mod StepLemmas
