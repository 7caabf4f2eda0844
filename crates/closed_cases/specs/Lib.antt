-- The outcomes of the cases that a call closes: of one from what is kept of it, of all on a cable from its places.
pub mod Cables
