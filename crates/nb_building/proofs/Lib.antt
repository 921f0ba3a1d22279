mod ArgumentLemmas
mod BuiltLemmas
pub mod Common
mod DatagramWordLemmas
mod MarkLemmas
mod PortLemmas
mod RefusalLemmas
mod ServiceWordLemmas
mod TakenLemmas
mod UnnamedLemmas
