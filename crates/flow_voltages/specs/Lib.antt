-- The constants of 000's flow
pub mod Constants
-- Currents, powers and mismatches at given voltages v, of n stations with the conductances m
pub mod Balance
-- The passes of document 01.2
pub mod Voltages
