-- the first rule that the grid, the order and the lines show
mod Rules
-- the ways in which a reading is answered
mod Answered
-- answer asks nothing of its caller
pub mod Tied
