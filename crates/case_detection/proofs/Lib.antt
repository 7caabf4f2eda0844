-- What detection reads of a case, and what a step makes of that: the rest of the case has no part in it.
pub mod Looks
-- A plan with another type factor.
pub mod TypeFactor
-- Whether a fault is detected does not depend on the type of the fault: plans that differ in the circuit's type factor alone agree.
pub mod TypeFree
-- What a caller learns from the contracts in src/, and that nothing is asked of one.
pub mod Tied
