-- A row that fits is written, if the case has one.
mod Written
-- What a caller learns from the contracts in src/, and that nothing is asked of one.
pub mod Tied
