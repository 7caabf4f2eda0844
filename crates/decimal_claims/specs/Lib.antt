-- the nearest number of millionths, and a column that spells it
pub mod Claims
