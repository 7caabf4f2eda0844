-- What an advance works out once, for all cases and for one.
pub mod Plans
