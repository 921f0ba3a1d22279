-- Lemmas that crates above cite too. No clause cites a lemma of these files.
pub mod PrintedLemmas
pub mod OptionLemmas
pub mod LineLemmas
