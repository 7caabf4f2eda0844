-- The constants of 000's fault circuit
pub mod Constants
-- 000's `fault_rlc_params`, a line to a definition
pub mod Parameters
-- The RLC circuit of 000's `simulate_fault`, a line to a definition
pub mod Circuit
