-- What a sweep keeps of its open case, and what a step makes of it, document 01.7.
pub mod OpenCases
-- Steps of a case by what is worked out once for its fault.
pub mod Plans
