-- a sheet with a line more
pub mod Taken
