-- The cases of a sweep, document 01.7: "cable ascending, then type (0 pole to ground, 1 pole to pole, 2 internal), then tenth ascending, fraction = tenth/10".
pub mod Cases
