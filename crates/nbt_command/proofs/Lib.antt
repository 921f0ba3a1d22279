pub mod Common
pub mod LineTurns
pub mod ObjectLemmas
