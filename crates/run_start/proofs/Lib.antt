-- Numbers, states and a grid that worked examples of runs share
pub mod Samples
-- The contracts in src/ ask nothing of a caller
pub mod Tied
-- Worked examples of the definitions
mod Controls
