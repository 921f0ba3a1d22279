-- Words of the code's own functions (our choice). They are no part of what a member is or does: each is held
-- against the definitions by a contract.
pub mod Members
pub mod Outcomes
pub mod EventTurns
