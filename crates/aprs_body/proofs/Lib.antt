pub mod Rows
pub mod BlankLemmas
pub mod PartLemmas
pub mod ReportLemmas
pub mod NamedLemmas
pub mod ItemLemmas
pub mod SaidLemmas
