-- What a record holds, and when it is written
pub mod Records
