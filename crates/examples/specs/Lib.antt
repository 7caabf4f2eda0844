-- Document 01's checked examples that are marked P, about the definitions
pub mod Examples
