-- Switching runs in portions, document 01.8
pub mod SwitchingRuns
