-- The loop of 000's `simulate_fault`: its body, and the initial values of its variables
pub mod Fault
-- What the code works out once for a run, and the setting that this gives
pub mod Plans
-- Steps of a fault run that change no voltage, no current of a cable or a station and no breaker
pub mod Quiet
