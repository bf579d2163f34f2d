pub mod Places
pub mod Compressed
pub mod Marks
pub mod Written
pub mod Plain
pub mod Either
pub mod MarkGrammar
pub mod Grammar
