-- SQRT_2, by its bits
pub mod Constants
-- what the square root of a double is, and how it is computed
pub mod Root
-- what the functions below `sqrt` promise each other
pub mod RootDigits
-- what document 01 says of its square root in words
pub mod Claims
