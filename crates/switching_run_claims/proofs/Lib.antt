-- The claims of specs/Claims, proved
pub mod Claims
-- An advance of a switching run is refused by 11 exactly where 01 says so, and then changes nothing
pub mod Refusals
-- The claims hold of what the contracts of `switching_runs` and `switching_start` promise
pub mod Tied
