pub mod Ends
pub mod Rests
pub mod Reading
pub mod Course
pub mod Channels
pub mod Directions
