-- Peak, heat and last current of a fault over the steps in which it lasts.
pub mod Sums
-- A block of sixteen steps, as the code works it out.
pub mod Blocks
