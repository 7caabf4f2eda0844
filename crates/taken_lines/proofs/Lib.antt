-- one lemma for each way through a line that is taken
pub mod Ways
-- What a caller learns from the contracts in src/, and that nothing is asked of one.
pub mod Tied
