-- a fraction to the nearest whole number is the nearest one, and the only one
pub mod Nearest
-- the claims, proved
pub mod Claims
-- the claims speak of what the code returns
pub mod Tied
