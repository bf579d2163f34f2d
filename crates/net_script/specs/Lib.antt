pub mod Grammar
pub mod Laws
pub mod Layouts
pub mod Limits
pub mod Reading
pub mod Running
pub mod Seen
