-- Two settings that agree give the same body
mod Settings
-- The claims of specs/Claims, proved
pub mod Claims
-- The claims hold of what the contracts of `fault_plan` and `fault_step` promise
pub mod Tied
-- Worked examples of the definitions
mod Controls
