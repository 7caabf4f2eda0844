-- The fault's current at a time
pub mod Current
-- What document 01 says of the fault's current in words, and what a reader expects beside the definitions
pub mod Claims
