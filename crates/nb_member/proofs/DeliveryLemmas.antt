-- The datagrams that events make whole, and those that are handed over.
pub mod Answered
pub mod WholeKeys
