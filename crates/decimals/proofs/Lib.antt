-- a fraction to the nearest whole number, by its quotient and its remainder
pub mod Rounded
-- the size of a double in millionths, from the fields of its pattern
mod Sizes
-- how many digits a number has, and those behind a point
pub mod Digits
-- what the columns of a double hold
pub mod Texts
-- the column of a double by the fields of its pattern
pub mod Values
-- decimal_column asks nothing of its caller
pub mod Tied
-- worked examples of the definitions
mod Controls
