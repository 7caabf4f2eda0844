-- what is said of a sheet beside the definitions
pub mod Claims
