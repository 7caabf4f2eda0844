-- The claims of specs/Claims, proved
pub mod Claims
-- The claims hold of what the contracts in src/ promise
pub mod Tied
