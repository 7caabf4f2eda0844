-- Order laws of `le` and `lt` at every float, zeros of both signs and infinities included
pub mod Order
-- What a test on doubles says
pub mod Tests
-- Doubles from 0 up compare as the fractions that they are
pub mod Values
-- Two doubles of one value are one double, and a double is what its own value rounds to
pub mod SameValue
-- The definitions of `max`, `min`, `abs` and `clamp` as the code's tests find them
pub mod Choosing
-- The smaller of two doubles, neither a NaN
pub mod Least
-- Which patterns are a NaN's
pub mod NanPattern
-- The whole part as the code finds it
pub mod Whole
-- A double above zero by its bit pattern, and back
pub mod Fields
-- Values of size at most 1: the operations under which they stay so
pub mod Unit
-- The claims of specs/Claims, proved
pub mod Claims
-- The claims hold of what the contracts in src/ promise
pub mod Tied
-- Worked examples of the definitions
mod Controls
-- One term more of a sum
pub mod Sums
-- Doubles from 0 to a whole number, and what the operations make of them
pub mod Range
-- Ranges of doubles above 0 through a product and a quotient
pub mod Interval
