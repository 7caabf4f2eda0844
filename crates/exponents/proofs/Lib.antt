-- What acceptance gives the circuit's parameters
pub mod Ranges
-- Of parameters in their ranges: damping and roots are never positive, and a time constant is above 0
pub mod Roots
-- Doubles from 0 up, infinity among them, times and over what is above 0
pub mod Signs
-- What an accepted fault study has: parts and times in their ranges
pub mod Accepted
-- All that is handed to E is never positive, of parameters in their ranges
pub mod Exponents
-- The claims of specs/Claims, proved
pub mod Claims
-- The claims hold of the circuit that `fault_circuit` makes
pub mod Tied
