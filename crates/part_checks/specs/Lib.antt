-- When the fields of a station, a cable, a breaker, a fault and a sweep order lie in their ranges
pub mod PartChecks
