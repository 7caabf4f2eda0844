-- The conductance matrix of document 01.2, entry by entry
pub mod Conductances
-- What holds of every conductance matrix, and lets a row be read as a column
pub mod Symmetric
