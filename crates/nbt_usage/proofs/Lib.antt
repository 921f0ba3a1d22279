pub mod Common
pub mod HelpWords
