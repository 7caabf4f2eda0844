-- a grid with a part more: counted, and kept where there is room
pub mod Parts
