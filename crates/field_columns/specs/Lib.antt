-- a field as document 01.9 has it: its form, its number, its three readings
pub mod Fields
-- how the code reads a field, a column at a time
pub mod Scanning
