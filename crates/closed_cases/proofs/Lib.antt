-- What a call takes for a case that it closes is what all steps of the case lead to.
pub mod AllSteps
-- Worked examples of the definitions.
mod Controls
-- What a caller learns from the contracts in src/, and that nothing is asked of one.
pub mod Tied
