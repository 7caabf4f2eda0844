-- The kept sweep, document 01.7, from the listing's own definitions: nothing here knows of an advance.
pub mod KeptSweep
-- An advance of a kept sweep, whatever it holds: rule 11, and one step at a time by 01's stopping rule.
pub mod Advance
