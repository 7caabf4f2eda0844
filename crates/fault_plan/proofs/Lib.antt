-- The phases of a fault run's step, as the code tests for them
pub mod Phases
-- The contracts in src/ give the definitions, and ask nothing of a caller
pub mod Tied
