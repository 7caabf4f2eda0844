-- the answer of a reading, as the code does it
pub mod Answers
