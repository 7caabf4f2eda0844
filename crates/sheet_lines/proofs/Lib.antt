-- a line of right form says what its fields hold; one with a field of another kind is of wrong form
mod Right
-- lines that are of wrong form: without a line feed, too long, not ended
pub mod WrongLines
-- line_of asks nothing of its caller
pub mod Tied
-- worked examples of the definitions
mod Controls
