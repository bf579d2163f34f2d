pub mod DateLemmas
pub mod OnLiterals
mod Rows
pub mod TextLemmas
