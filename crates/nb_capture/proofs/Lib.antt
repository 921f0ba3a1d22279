pub mod Common
pub mod CaptureLemmas
pub mod LineLemmas
pub mod LineTakingLemmas
pub mod LinePrintingLemmas
pub mod LineWritingLemmas
