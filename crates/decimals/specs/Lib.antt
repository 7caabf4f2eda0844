-- a double with six places in 21 columns
pub mod Decimals
-- what the functions that work a size out promise to those that print it
pub mod Sizes
