-- one lemma for each way through a byte, and what follows a sheet that has stopped
pub mod Feeding
-- start, stopped and feed ask nothing of their callers
pub mod Tied
