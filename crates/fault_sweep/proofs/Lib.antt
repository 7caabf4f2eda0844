-- A sweep's cases, as an advance makes them, are those of `portions`; and what is kept of them is what 000's runs have.
pub mod Shown
-- The loop of a sweep's advance, a case to a turn.
mod SweepLoop
-- What a caller learns from the contracts in src/, and that nothing is asked of one.
pub mod Tied
