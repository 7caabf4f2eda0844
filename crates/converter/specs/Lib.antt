-- The constants of 000's converters
pub mod Constants
-- A point of zeros
pub mod Point
-- The line-commutated converter of document 01.1, a line of 000's `lcc_operating_point` to a definition
pub mod Lcc
-- The voltage-source converter of document 01.1, a line of 000's `vsc_operating_point` to a definition
pub mod Vsc
-- What document 01.1 says of a VSC's voltage in words
pub mod Claims
