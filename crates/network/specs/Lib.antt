-- The constants of 000's model
pub mod Constants
-- 000's `station_capacitance_uf`
pub mod Capacitance
-- What every stage of a step needs of a grid and of a fault
pub mod Network
