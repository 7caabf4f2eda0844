-- The claims of specs/Claims, proved
pub mod Claims
-- The claims hold of what the contracts of `conductances` promise
pub mod Tied
