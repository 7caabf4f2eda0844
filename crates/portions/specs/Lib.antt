-- Document 01's stopping rule, of run and sweep alike
pub mod Stopping
-- The tally of steps by the stopping rule alone
pub mod Tally
-- Lists of calls, each handed what the last one returned
pub mod Calls
-- Rule 11 of what is advanced, run or sweep
pub mod Refusals
-- The claim about every list of calls, as far as it is alike for run and sweep
pub mod Course
-- A sweep of any case state, any step and any row: cases, listing, what is kept
pub mod Cases
-- Demand 3, of any case state, any step and any row
pub mod Demand3
