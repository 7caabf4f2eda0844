-- "Classical RK4, 1/6 (k1+2k2+2k3+k4)", and new voltages at least 0.
pub mod Rk4
-- 000's `rk4_step` as a function of a grid: what the network's tables hold, read from the grid itself.
pub mod OfGrid
