-- What a caller learns from the contracts in src/, and that nothing is asked of one.
pub mod Tied
