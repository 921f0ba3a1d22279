-- Words of the code's own data and loops (our choice). They are no part of what a name is: each is held
-- against the definitions by a contract.
pub mod Kept
pub mod TextSteps
