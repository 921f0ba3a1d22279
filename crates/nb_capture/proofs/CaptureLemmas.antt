-- Lines of captures, their words, and bytes cut into lines.
pub mod Words
pub mod LineValues
