mod FollowLemmas
mod TakeLemmas
