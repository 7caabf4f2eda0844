-- the form of a field piece by piece, its value, and what is printed
pub mod Claims
