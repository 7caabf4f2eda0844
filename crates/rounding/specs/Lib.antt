-- "the nearest double": distances compared as whole numbers
pub mod Nearest
