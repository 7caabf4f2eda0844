-- Operating points of document 01.1: the converter's where the station is accepted
pub mod Answer
-- What document 01.1 says of operating points in words
pub mod Claims
