pub mod Common
pub mod EndedLemmas
pub mod EndingLemmas
