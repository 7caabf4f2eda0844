-- The fastest time so far is never a NaN
pub mod NeverNan
-- The fastest of a list of breakers whose times are numbers below the largest double
pub mod Fastest
-- The claims hold of what the contracts in src/ promise
pub mod Tied
-- Worked examples of the definitions
mod Controls
