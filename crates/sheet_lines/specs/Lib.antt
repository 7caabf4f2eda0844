-- the fields of a line: whether each has its form, and its number
pub mod Fields
-- several fields read at once
pub mod Groups
-- the five kinds of lines
pub mod Lines
