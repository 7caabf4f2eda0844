-- The fault's current without the factor of its type.
pub mod Sites
-- What a reader expects of the current before the factor of its type.
pub mod Claims
