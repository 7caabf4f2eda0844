-- The steps that are left of some.
mod Left
-- Which steps reason 8 counts, as the code tests it.
mod Counted
-- Worked examples of the definitions.
mod Controls
-- What a caller learns from the contracts in src/, and that nothing is asked of one.
pub mod Tied
