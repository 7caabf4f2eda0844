-- The claims of specs/Claims, proved
pub mod Claims
-- The claims hold of what the contracts of `network_of` and `rk4_step` promise
pub mod Tied
