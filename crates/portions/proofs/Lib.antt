-- Items joined, and stored one behind the other in lent memory
pub mod Joined
-- An advance as a loop makes it
pub mod Loop
-- A call is refused by 11 exactly where the stepper tests so, and then changes nothing
pub mod Refusals
-- Every list of calls meets the claim `Portions`
pub mod Course
-- A count by N: it gets to a multiple of N, or stays below the next one
pub mod Multiples
-- What a sweep keeps after t steps, and the step from it
pub mod Cases
-- Demand 3 from the claims of `Course`
pub mod Demand3
-- Many steps of an advance at once
pub mod Strides
-- Worked examples of the definitions
mod Controls
-- The contracts in src/ ask nothing of a caller
pub mod Tied
