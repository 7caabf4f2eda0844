-- The first of an order's rules that is broken, where no number stands twice in the order and none is 0
pub mod Deciding
-- The times of accepted breakers are numbers below the largest double
pub mod AcceptedTimes
-- The claims of specs/Claims, proved
pub mod Claims
-- What the rules 3 and 1, first in every order, say of the counts
pub mod Sizes
-- The claims hold of what the contracts of `rules` promise
pub mod Tied
