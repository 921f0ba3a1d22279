pub mod Names
pub mod Building
pub mod Showing
pub mod ShowingFields
pub mod Commands
