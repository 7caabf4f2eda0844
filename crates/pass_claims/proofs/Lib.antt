-- The claims of specs/Claims, proved
pub mod Claims
-- The claims hold of what the contracts of `flow_voltages` promise
pub mod Tied
