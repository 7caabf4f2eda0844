-- The loop of an advance, of any kind of run
pub mod Turns
-- A run of any kind meets `InPortions`
pub mod Portions
-- Rule 11 of a run, both ways
pub mod Refusals
-- The claim of specs/Runs about the number of records
pub mod Claims
-- The contracts in src/ ask nothing of a caller
pub mod Tied
-- Worked examples of what stands beside a refusal
mod Controls
