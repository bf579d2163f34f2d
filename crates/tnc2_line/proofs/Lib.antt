pub mod Calls
pub mod Cuts
pub mod Laws
pub mod Paths
pub mod Steps
pub mod Vias
mod Rows
