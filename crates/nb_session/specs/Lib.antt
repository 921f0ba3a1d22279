pub mod Header
pub mod Packet
pub mod Parsing
pub mod Stream
pub mod Cutting
pub mod PacketReading
pub mod FaultTexts
pub mod Code
