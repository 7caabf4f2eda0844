-- What document 01 says of E's argument: of an accepted fault it is never positive
pub mod Claims
