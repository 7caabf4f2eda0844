-- The stages of a response and of a site's current, each over all lanes, put together.
pub mod Composed
-- The claims of specs/Claims, proved.
pub mod Claims
-- What a caller learns from the contracts in src/, and that nothing is asked of one.
pub mod Tied
-- Worked examples of the definitions.
mod Controls
