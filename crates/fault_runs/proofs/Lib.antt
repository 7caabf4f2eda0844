-- The steps of a fault run
pub mod Steps
-- The contracts in src/ give the definitions, and ask nothing of a caller
pub mod Tied
