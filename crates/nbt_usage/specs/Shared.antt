-- Lemmas that the program cites too. No clause cites a lemma of these files.
pub mod TakenWords
pub mod MisusedWords
