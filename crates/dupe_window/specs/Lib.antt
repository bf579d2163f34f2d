pub mod Digests
pub mod Keys
pub mod Packed
pub mod Recalled
pub mod Windows
