-- What stands beside a refusal: all zero and false
pub mod Blank
-- A kind of run: what an advance reads of a run, and what it returns
pub mod Kinds
-- A run of 000 in portions, and the claim about every list of its advance calls
pub mod Runs
