pub mod Packet
pub mod Pieces
