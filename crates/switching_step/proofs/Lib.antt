-- What a write to a part of an array leaves of the whole
mod Parts
-- The contracts in src/ give the definitions, and ask nothing of a caller
pub mod Tied
