-- a sheet read a byte at a time
pub mod Bytes
