-- a number as text, right-justified in columns
pub mod Printed
-- what the function that writes a column promises to the one that writes them all
pub mod Glyphs
