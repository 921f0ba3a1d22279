pub mod Capacity
pub mod Saving
pub mod SaveFaults
pub mod Replaying
pub mod Differences
pub mod Tables
pub mod Code
pub mod Commands
