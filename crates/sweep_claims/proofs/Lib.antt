-- The claims of specs/Claims, proved.
pub mod Claims
-- A sweep's start, the state of its last step, and rule 11 both ways.
pub mod Refusals
-- What a caller learns from the contracts in src/, and that nothing is asked of one.
pub mod Tied
