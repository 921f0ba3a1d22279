mod Common
mod Changes
mod CoverChanges
mod Covers
mod KeptRuns
mod Runs
mod SavedReading
mod LawLemmas
