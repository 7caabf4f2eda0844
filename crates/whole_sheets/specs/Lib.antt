-- the lines of a text, its refusal, its grid and its order
pub mod Sheets
-- what a reader expects of what X prints, beside the definitions
pub mod Claims
