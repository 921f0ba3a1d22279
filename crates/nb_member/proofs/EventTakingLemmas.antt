-- Events in a row.
pub mod EventsInRow
pub mod OneEvent
