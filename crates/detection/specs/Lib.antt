-- The constants of 000's detection.
pub mod Constants
-- "Detection, `detect_fault` on two states": any doubles, read up to the grid's counts.
pub mod Detection
-- What document 01 says of detection in words.
pub mod Claims
