-- Demand 3 of the sweep, "one claim about a whole list, not about each call"; its start; rule 11 both ways.
pub mod Claims
