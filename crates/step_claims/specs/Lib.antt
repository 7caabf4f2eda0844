-- What document 01.3 says of the step in words, and what a reader expects beside the definitions
pub mod Claims
