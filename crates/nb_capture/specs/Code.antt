-- Words of the code's own functions (our choice). They are no part of what a capture says: each is held
-- against the definitions by a contract.
pub mod LineSteps
pub mod LineTurns
pub mod PrintedLines
