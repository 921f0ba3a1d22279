pub mod PlaceLemmas
pub mod RequestLemmas
pub mod RowLemmas
pub mod FailedLemmas
pub mod KeepLemmas
pub mod TellLemmas
pub mod HearingLemmas
