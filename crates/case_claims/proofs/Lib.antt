-- The claims of specs/Claims, proved.
pub mod Claims
