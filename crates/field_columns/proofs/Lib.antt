-- when a byte is a digit
pub mod Digit
-- no digit of a field overflows
pub mod Limits
-- reading a column at a time gives the number that the definition gives
pub mod Shape
-- a field's number has 12 digits and 6 places at most
pub mod Below
-- a line that ends before the last column
pub mod Ways
-- field_at asks nothing of its caller
pub mod Tied
-- worked examples of the definitions
mod Controls
