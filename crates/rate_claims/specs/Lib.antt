-- What document 01.3 says of the derivatives in words, and what a reader expects beside the definitions
pub mod Claims
