mod LiveLemmas
mod JoinLemmas
mod TakeLemmas
mod LawLemmas
