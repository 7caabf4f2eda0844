-- The steps of a switching run
pub mod Steps
-- Worked examples of the definitions
mod Controls
-- The contracts in src/ give the definitions, and ask nothing of a caller
pub mod Tied
