-- A record put down part by part
mod Parts
-- When a record that has its space is written
pub mod Fitting
-- The contracts in src/ ask nothing of a caller
pub mod Tied
-- A worked example of a record
mod Controls
