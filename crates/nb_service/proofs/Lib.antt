pub mod SectionLemmas
pub mod RowWalks
pub mod ItemLemmas
pub mod PacketLemmas
pub mod EncodingLemmas
pub mod NumberedLemmas
pub mod WalkedLemmas
