-- The root of 1.5 that the code has as a constant is the root
pub mod Constants
-- The claims of specs/Claims, proved
pub mod Claims
-- The contracts in src/ ask nothing of a caller
pub mod Tied
-- Worked examples of the definitions
mod Controls
