-- What is known of the first number for which a test holds.
pub mod Found
-- What a search for the first number that passes a test answers, and the window that two such searches make.
pub mod Turns
-- What a caller learns from the contracts in src/, and that nothing is asked of one.
pub mod Tied
-- Worked examples of the definitions.
mod Controls
