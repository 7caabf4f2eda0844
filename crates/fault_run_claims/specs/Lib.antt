-- Every list of advance calls of a fault run, and its refusals by 11
pub mod Claims
