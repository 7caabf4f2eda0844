-- E of document 01, which stands for `exp`
pub mod Exponential
-- S and C of document 01, which stand for `sin` and `cos`
pub mod Wave
-- What document 01 says of E in words, and what a reader expects of S and C beside their definitions
pub mod Claims
