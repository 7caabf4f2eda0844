-- The lanes of a block, folded in order, are steps; and steps block by block are all of them.
pub mod Blocks
-- What a caller learns from the contracts in src/, and that nothing is asked of one.
pub mod Tied
-- Worked examples of the definitions.
mod Controls
