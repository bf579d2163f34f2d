pub mod Building
pub mod Rule
