-- The accepted values of document 01, one table of lows and highs
pub mod Ranges
-- What document 01 says of ranges in words, and what a reader expects beside the definitions
pub mod Claims
