-- Words of the code's own functions (our choice). They are no part of what a call promises: each is held against the
-- definitions by a contract.
pub mod RoomSteps
