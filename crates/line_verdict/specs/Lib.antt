pub mod Fit
pub mod Voices
