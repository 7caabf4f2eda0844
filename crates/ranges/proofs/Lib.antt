-- Whole numbers in the ranges of 01's list: compared as doubles they compare as numbers
pub mod WholeNumbers
-- The claims of specs/Claims, proved
pub mod Claims
-- The claims hold of what the contracts in src/ promise
pub mod Tied
-- Worked examples of the definitions
mod Controls
-- A range that begins at 0 is what lies from 0 to its end
pub mod InRange
