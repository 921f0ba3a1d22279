pub mod Texts
pub mod Tokens
pub mod Telling
pub mod Members
pub mod ObjectLines
