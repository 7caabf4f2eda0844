-- a printed line: its fields, its form, and where it ends
pub mod Lines
-- the whole numbers of accepted parts stand in a field
pub mod Whole
-- each printed line says its part
pub mod Parts
-- what the lines of a printed sheet say
pub mod Read
-- the order of the lines, and the grid and the order that they make
pub mod Contents
-- no rule refuses the lines of an accepted grid and order
pub mod Accepted
-- the round trip, proved
pub mod Claims
-- what `new` makes, and a grid with a part more
pub mod Made
-- the claim speaks of what `read_sheet` answers
pub mod Tied
-- worked examples of the definitions
mod Controls
