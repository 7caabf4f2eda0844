-- What document 01 says of refusals in words, and what a reader expects beside the definitions
pub mod Claims
