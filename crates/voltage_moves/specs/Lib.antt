-- The constants of a pass of 000's flow
pub mod Constants
-- How a pass of document 01.2 moves the voltages v, from the mismatches d and the conductances m
pub mod Moves
