-- 000's `state_derivatives`, entry by entry: n stations and m cables.
pub mod Derivatives
-- 000's `state_derivatives` as a function of a grid: what the network's tables hold, read from the grid itself.
pub mod OfGrid
