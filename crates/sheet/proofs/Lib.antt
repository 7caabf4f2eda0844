-- an array with the elements of a list in front
mod Laid
-- the lines taken one by one give the grid and the order of the definition
mod Contents
-- and its refusal
mod Judged
-- a text read a byte at a time is answered as the definition has it
pub mod Whole
-- the claims, proved
pub mod Claims
-- the claims speak of what read_sheet returns
pub mod Tied
