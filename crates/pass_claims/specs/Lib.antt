-- What document 01.2 says of the passes in words, and what a reader expects beside the definitions
pub mod Claims
