-- On specs/SavedReading and LoadFaults.
pub mod FoundLemmas
pub mod LoadedLemmas
pub mod LoadLemmas
