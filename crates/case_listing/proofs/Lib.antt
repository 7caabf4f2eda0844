-- A number falls into a quotient and a remainder, and back: so do the numbers of cases into cable, type and tenth.
mod Places
-- Worked examples of what a case leads to and of the listing, which are believed too.
mod Listed
-- The claims of specs/Claims, proved.
pub mod Claims
