-- One turn of each loop over the stations
pub mod Turns
-- Currents added up column by column are those added up along the rows
pub mod Columns
-- The passes, one by one
pub mod Passes
-- The contracts in src/ give the definitions, and ask nothing of a caller
pub mod Tied
-- Worked examples of the definitions
mod Controls
