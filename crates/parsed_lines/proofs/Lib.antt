pub mod ParsedLemmas
