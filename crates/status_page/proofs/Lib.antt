pub mod CallLemmas
pub mod CountLemmas
pub mod GetLemmas
pub mod OrderLemmas
pub mod PageLemmas
pub mod PayingLemmas
