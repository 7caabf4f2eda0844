-- Lists by their elements
pub mod Tables
-- Lists gone through from the front
pub mod Scans
