pub mod Brought
pub mod Brings
pub mod Follows
pub mod Examples
