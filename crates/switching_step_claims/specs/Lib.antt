-- What a reader expects beside the definitions
pub mod Claims
