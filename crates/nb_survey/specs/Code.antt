-- What the code keeps of what is said, and its steps. No public contract cites these, but for what a table sums up.
pub mod Steps
pub mod Kept
pub mod Finding
