-- The listing of a sweep, document 01.7, from 000's own run of each fault: nothing here knows of a kept sweep, a call or a portion.
pub mod Listing
-- What document 01.7 says of the cases in words, and what a reader expects beside the definitions.
pub mod Claims
