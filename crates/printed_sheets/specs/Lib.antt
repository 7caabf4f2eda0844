-- a sheet printed from a grid and an order
pub mod Printing
-- a printed sheet reads back to its grid and order
pub mod Claims
