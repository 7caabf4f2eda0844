-- The rules 1 to 10 of document 01, their numbers, and the order in which each study checks them
pub mod Studies
