-- What a loop that counts up by one knows where it is left, and how a number compares with another
pub mod Counting
-- A loop that fills an array from the front
pub mod Fills
-- A scan of a list up to a count, at any element type and any test
pub mod Scanning
-- A loop that folds a list from the front, as a sum does
pub mod Folds
-- An array of which one place or two are changed
pub mod Places
-- A loop that stores numbers from a position of a longer list on
pub mod Stores
