pub mod Answers
pub mod Replies
pub mod Serving
pub mod Views
