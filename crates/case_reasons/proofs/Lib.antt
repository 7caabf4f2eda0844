-- What the code's slices say in the words of the definitions.
mod Written
-- What a caller learns from the contracts in src/, and that nothing is asked of one.
pub mod Tied
-- Worked examples of the definitions.
mod Controls
