-- Tables with timers, and members that stand for fragments.
pub mod DroppedKeys
pub mod LiveAfter
pub mod Timers
