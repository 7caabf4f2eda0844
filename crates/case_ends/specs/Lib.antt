-- What a case leads to at its end, read from the steps in which its fault lasts.
pub mod Ends
-- What a reader expects beside the definitions: a jump to the end is what the steps one by one lead to.
pub mod Claims
