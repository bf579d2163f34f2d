pub mod Counting
pub mod Gets
pub mod Laws
pub mod Page
pub mod PageFronts
pub mod PageValue
pub mod Paying
