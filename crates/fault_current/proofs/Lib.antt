-- The claims of specs/Claims, proved
pub mod Claims
-- Worked examples of the definitions
mod Controls
-- The claims hold of what the contracts in src/ promise
pub mod Tied
