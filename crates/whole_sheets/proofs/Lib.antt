-- worked examples of the definitions
mod Controls
-- a result of which no refusal is printed is Ok
pub mod Printed
-- the claims of specs/Claims, proved
pub mod Claims
-- the claims hold of what the contracts in src/ promise
pub mod Tied
