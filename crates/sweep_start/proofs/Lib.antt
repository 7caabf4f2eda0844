-- What is accepted of a sweep is accepted of its flow.
mod Accepted
-- A sweep after 0 steps: its first case is open, as before its first step.
mod Fresh
-- What a caller learns from the contracts in src/, and that nothing is asked of one.
pub mod Tied
-- Worked examples of the definitions.
mod Controls
