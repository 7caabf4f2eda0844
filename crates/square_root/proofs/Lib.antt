-- whole numbers under a root: its digits, its rounding, its scale
pub mod RootNumbers
-- the digits of a root and the place of its last one
pub mod RootPlace
-- the cases of a root, as the tests of `sqrt` find them
pub mod RootCases
-- the root is the nearest double
pub mod RootNearest
-- no other double is
pub mod RootOnly
-- how far `round` is from its fraction
pub mod RoundError
-- the root of a rounded square is the number again
pub mod RootOfSquare
-- the claims, proved
pub mod Claims
-- the claims speak of what the code returns
pub mod Tied
-- worked examples of the definition
mod Controls
