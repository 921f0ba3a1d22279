pub mod Common
pub mod ShowingFieldsLemmas
pub mod ShowingLemmas
