-- What a fault drains, place by place as the code stores it.
pub mod Ends
-- What the loops of a stage leave behind, put together.
pub mod Stages
-- The network's tables hold the grid.
pub mod Tables
-- What a caller learns from the contracts in src/, and that nothing is asked of one.
pub mod Tied
-- Worked examples of the definitions.
mod Controls
