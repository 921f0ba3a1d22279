-- What the laws of joins rest on, and what crates above cite. No clause cites a lemma of these files: they stand beside the
-- definitions because the laws of a trait, and other crates, can cite nothing of `proofs/`.
pub mod MapsLemmas
pub mod SlotLemmas
pub mod CoverLemmas
pub mod EntryLemmas
pub mod EqualLemmas
pub mod PlacedLemmas
pub mod MarksLemmas
pub mod WholeLemmas
pub mod RunsLemmas
pub mod RowLemmas
pub mod PuttingLemmas
pub mod SavedLemmas
pub mod OutcomeLemmas
pub mod FoundLemmas
pub mod ReadBackLemmas
