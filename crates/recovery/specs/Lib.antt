-- The constant of the loop in 000's `simulate_fault`, by its bits
pub mod Constants
-- What the loop of 000's `simulate_fault` does with a voltage after clearing
pub mod Recovery
