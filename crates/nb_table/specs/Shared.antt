-- What the laws of joins and of sinks rest on, and what crates above cite. No clause cites a lemma of these files: they
-- stand beside the definitions because the laws of a trait, and other crates, can cite nothing of `proofs/`.
pub mod TreeLemmas
pub mod TableLemmas
pub mod ContentsLemmas
pub mod ConflictLemmas
pub mod SayingLemmas
