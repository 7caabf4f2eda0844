-- The constant of the loop in 000's `simulate_switching`, by its bits
pub mod Constants
-- The loop of 000's `simulate_switching`: its body, and the initial values of its variables
pub mod Switching
-- What the code works out once for a run, and the setting that this gives
pub mod Plans
