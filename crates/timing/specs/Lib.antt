-- The time of a run: its steps, and which of them are recorded
pub mod Steps
-- What document 01 says of steps in words, and what a reader expects beside the definitions
pub mod Claims
