-- Replays of captures, line by line.
pub mod LineReports
pub mod LinesInRow
pub mod ReplayEnds
