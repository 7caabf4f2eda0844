-- rounding to a whole number errs by a half at most
pub mod Half
-- large doubles are multiples of large powers of two
pub mod Multiples
-- a fraction rounded once is the nearest double
pub mod NearestValue
