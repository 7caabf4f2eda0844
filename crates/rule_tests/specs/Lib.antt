-- The rules 1 to 8 of document 01
pub mod Rules
