-- On Code/RunSteps: bytes by place, kept as runs.
pub mod RunMapLemmas
pub mod RunPutLemmas
pub mod RunReadLemmas
pub mod RunRowLemmas
pub mod RowsLemmas
