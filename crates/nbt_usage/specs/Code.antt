-- Words that private functions' contracts alone cite.
pub mod CommandForms
pub mod HelpWords
