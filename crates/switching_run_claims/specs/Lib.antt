-- Every list of advance calls of a switching run, and its refusals by 11
pub mod Claims
