-- Words that private functions' contracts alone cite.
pub mod Marks
