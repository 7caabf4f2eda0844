-- One turn of E's loops and of the series' loop, and their ends
pub mod Series
-- S's reduction and S's and C's divisors as the code finds them
pub mod Reduced
-- For t ≤ 0, E t lies between 0 and 1
pub mod ExpBound
-- S and C lie between -1 and 1, or are NaN
pub mod WaveBound
-- The claims of specs/Claims, proved
pub mod Claims
-- The claims hold of what the contracts in src/ promise
pub mod Tied
-- Worked examples of the definitions
mod Controls
