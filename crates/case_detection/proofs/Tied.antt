-- No function asks anything of its caller.
-- Assumes nothing.
use contract.Lifetimes.{Lfts}
use borrow.Fn.World.{ArgsD}
use Rattle.case_detection.specs.contracts.detecting.is_detected_within as within-contract
use Rattle.case_detection.proofs.detecting.is_detected_within.Reads as within-reads

module _ (κs : Lfts 0) (a : ArgsD within-contract.signature κs) where
  pub within_any : within-reads.Asked κs a
  within_any = tt
