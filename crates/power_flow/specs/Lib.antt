-- Operating points and losses at given voltages
pub mod Solution
-- 000's flow as a function of a grid
pub mod Flow
