pub mod HexLemmas
pub mod Laws
pub mod PathLemmas
pub mod RowLemmas
mod Rows
