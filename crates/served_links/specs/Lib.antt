pub mod Changes
pub mod Counts
pub mod EndLines
pub mod Fed
pub mod Halves
pub mod Links
pub mod Pending
