-- the printed digits spell the number
pub mod Spelled
-- the form of a field, and what is printed read back
pub mod RoundTrip
-- the claims, proved
pub mod Claims
-- a double that real_at returns is the nearest
pub mod Tied
