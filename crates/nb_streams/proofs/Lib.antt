pub mod DeviceLemmas
pub mod LineLawLemmas
pub mod HexadecimalLemmas
pub mod PushingLemmas
pub mod RoomLemmas
