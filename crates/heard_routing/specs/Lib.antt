pub mod Entries
pub mod Heard
pub mod LastHeard
pub mod Listed
