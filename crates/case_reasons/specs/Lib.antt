-- Why a case is listed, and its row, document 01.7, from what all its steps lead to.
pub mod Reasons
