-- What the row of a case needs beside its outcome.
pub mod Rows
