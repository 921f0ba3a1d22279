pub mod Common
pub mod DifferenceLemmas
pub mod JoinedLemmas
pub mod ListedLemmas
pub mod OutcomeLemmas
pub mod ReplayingTurns
pub mod SavingTurns
pub mod TableTurns
