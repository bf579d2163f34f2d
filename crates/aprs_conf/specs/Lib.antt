pub mod Arguments
pub mod Grammar
pub mod Reading
pub mod Seen
pub mod Served
pub mod Sound
pub mod Words
pub mod Writing
