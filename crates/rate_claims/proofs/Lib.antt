-- The claims of specs/Claims, proved
pub mod Claims
-- The claims hold of what the contract of `network_of` promises
pub mod Tied
