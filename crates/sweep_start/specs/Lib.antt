-- The start of a sweep, document 01.7: its refusal, and what is kept.
pub mod Start
