-- Document 01's examples marked P, by computation
pub mod Examples
