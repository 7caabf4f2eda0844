-- What a reader expects beside the definitions: the steps by a plan are the grid's, and what is kept of a case is what 000's run of its fault has.
pub mod Claims
