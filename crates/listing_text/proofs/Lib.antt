-- what the columns of a line hold once all are written
pub mod Written
-- the claims, proved
pub mod Claims
-- the claims speak of what the code returns
pub mod Tied
-- worked examples of the definitions
mod Controls
