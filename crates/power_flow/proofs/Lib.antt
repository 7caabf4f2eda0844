-- The operating points from currents that are computed for all stations at once
pub mod Points
-- The contracts in src/ give the definitions, and ask nothing of a caller
pub mod Tied
-- Worked examples of the definitions
mod Controls
