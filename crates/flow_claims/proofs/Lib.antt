-- The claims of specs/Claims, proved
pub mod Claims
-- The claims hold of what the contract of `solve_dc_power_flow` promises
pub mod Tied
