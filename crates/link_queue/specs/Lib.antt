pub mod Batches
pub mod Lines
pub mod Pieces
pub mod Queues
