-- the lines R, E and X as document 01.9 has them
pub mod Lines
-- what the functions that write several numbers promise to those that write a line
pub mod Puts
-- how long a line is, and that its numbers are read back
pub mod Claims
