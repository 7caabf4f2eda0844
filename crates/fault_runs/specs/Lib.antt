-- Fault runs in portions, document 01.5
pub mod FaultRuns
