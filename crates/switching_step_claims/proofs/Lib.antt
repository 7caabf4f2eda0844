-- The claims of specs/Claims, proved
pub mod Claims
-- The claims hold of what the contracts of `switching_plan` and `switching_step` promise
pub mod Tied
-- Worked examples of the definitions
mod Controls
