-- The constants of document 01's float rules, by their bits
pub mod Constants
-- The operations in a circle: + - * / rounded once
pub mod Arithmetic
-- `max`, `min`, `abs` and `clamp` of document 01's float rules
pub mod Choice
-- `to_radians` multiplies by the rounded quotient PI/180
pub mod Angle
-- The whole part of a double, which S takes and steps are counted by
pub mod Whole
-- The bits of a double, with one pattern for NaN, and a double from bits
pub mod Pattern
-- What a reader expects of the float functions beside their definitions
pub mod Claims
