-- What a loop over the first n of an array's parts leaves in a table
pub mod Slices
-- Worked examples of the definitions
mod Controls
-- The contracts in src/ ask nothing of a caller
mod Tied
