-- What the number of an answer says of it
pub mod Outcomes
-- The first rule of an order that is broken, as a scan of the order finds it
pub mod Refused
-- The contracts in src/ give the definitions, and ask nothing of a caller
pub mod Tied
-- Worked examples of the definitions
mod Controls
