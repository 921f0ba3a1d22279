pub mod HeaderLemmas
mod PacketLemmas
pub mod ParsingLemmas
mod PacketReadingLemmas
mod CuttingLemmas
mod TotalityLemmas
