-- Lemmas that crates above cite too. No clause cites a lemma of these files.
pub mod LinesSoFar
