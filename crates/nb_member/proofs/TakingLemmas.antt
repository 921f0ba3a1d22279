-- Payloads that a member takes, and others' tables.
pub mod Payloads
pub mod FullKeys
