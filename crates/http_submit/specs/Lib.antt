pub mod Fronts
pub mod Heads
pub mod Laws
pub mod Owing
pub mod Pools
pub mod Requests
