-- Reading the lines of an input.
pub mod Seeking
pub mod Ending
