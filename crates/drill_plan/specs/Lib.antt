pub mod Drill
pub mod Left
