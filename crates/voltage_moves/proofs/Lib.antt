-- The contracts in src/ ask nothing of a caller
pub mod Tied
-- Worked examples of the definitions
mod Controls
