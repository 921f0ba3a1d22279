pub mod CommandLine
pub mod Refusals
pub mod Code
pub mod Shared
