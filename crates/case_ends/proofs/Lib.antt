-- The steps of a case by the phase of its fault: waiting, lasting, cleared.
pub mod Phases
-- From what the code has worked out to the outcome of a case.
pub mod Ways
-- The claims of specs/Claims, proved.
pub mod Claims
-- Worked examples of the definitions.
mod Controls
-- What a caller learns from the contracts in src/, and that nothing is asked of one.
pub mod Tied
