-- columns written from the last to the first
pub mod Cells
-- what the columns hold is the number, right-justified
pub mod Justified
-- put_number asks nothing of its caller
pub mod Tied
-- worked examples of the definitions
mod Controls
