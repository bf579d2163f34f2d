pub mod Attempts
pub mod Sides
pub mod UplinkLaws
pub mod Uplinks
