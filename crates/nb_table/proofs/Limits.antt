-- On specs/Limits and Merging.
pub mod GroupLemmas
pub mod CountLemmas
pub mod SourceLemmas
pub mod UnfitLemmas
pub mod RefusalLemmas
pub mod MergingLemmas
