pub mod Canonical
pub mod Grammar
pub mod Names
pub mod Numbers
pub mod Parts
pub mod Seen
pub mod Sets
pub mod Terms
