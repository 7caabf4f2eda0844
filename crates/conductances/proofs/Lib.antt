-- The conductance matrix: what stores leave in an entry, what a cable more makes of it, and that it is symmetric
pub mod Entries
-- A small grid, and a way to read its conductances: the worked examples of the definitions compute on these
pub mod Samples
-- The contracts in src/ give the definitions, and ask nothing of a caller
pub mod Tied
