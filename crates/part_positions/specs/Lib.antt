-- What a reader expects of positions beside the definitions
pub mod Claims
