mod Common
mod ReadingLemmas
pub mod PacketLemmas
pub mod FrontLemmas
pub mod FaultLemmas
mod PiecesLemmas
mod TotalLemmas
