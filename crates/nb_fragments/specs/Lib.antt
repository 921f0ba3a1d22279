pub mod Keys
pub mod Live
pub mod Taking
pub mod Code
