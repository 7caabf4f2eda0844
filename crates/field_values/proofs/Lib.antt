-- both numbers of a field are doubles
pub mod Ways
-- one float division of two whole numbers rounds their quotient once
pub mod Divide
-- both functions ask nothing of their callers, and a whole number that is read is below 10 ^ 12
pub mod Tied
