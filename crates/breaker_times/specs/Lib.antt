-- Breaker times of document 01.4, in milliseconds
pub mod Breakers
-- What document 01 says of the fastest breaker in words
pub mod Claims
