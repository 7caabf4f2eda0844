-- Quotients rounded up, and how many multiples lie below a number
pub mod Ceiling
-- How many steps of a run are recorded
pub mod Records
-- The number of steps of a run: a quotient rounded up
pub mod Stepping
-- The claims of specs/Claims, proved
pub mod Claims
-- The time step and the duration that a study uses are at least the least ones, whatever double the grid holds
pub mod Raised
-- The claims hold of what the contracts in src/ promise
pub mod Tied
-- Worked examples of the definitions
mod Controls
