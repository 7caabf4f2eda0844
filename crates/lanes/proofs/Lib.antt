-- Loops over the lanes of a block, and loops whose turns each go over all lanes.
pub mod Lanes
-- The loops over the terms of E and S and over E's squarings, in all lanes: one turn, and the end.
pub mod Turns
-- The stages of E and S, each over all lanes, put together.
pub mod Composed
-- What a caller learns from the contracts in src/, and that nothing is asked of one.
pub mod Tied
