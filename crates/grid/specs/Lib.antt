-- What a part's number stands for
pub mod Parts
-- A grid: what `new` makes, what a part more makes of it, and which parts it has
pub mod Simulator
-- A cable's total resistance, and the station at which an end of it is taken to be
pub mod Cables
