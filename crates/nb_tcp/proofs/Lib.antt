mod ByteLemmas
mod RunsLemmas
mod PartLemmas
mod OrderLemmas
