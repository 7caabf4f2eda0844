-- the place of a line in T, O, S, C, B, and by which of 12 and 13 it is refused
pub mod Ordered
