-- What document 01.2 says of the conductances in words, and what a reader expects beside the definitions
pub mod Claims
