-- The claims speak of what the code returns: what a caller learns from a contract in src/, as Rattle reads its clauses, gives the claim of the result, and nothing is asked of the caller.
-- Assumes nothing.
use mathlib.Core.Path.{◌≡◌, ◌∙◌}
use mathlib.Core.Bool.{false}
use contract.Lifetimes.{Lfts}
use borrow.Fn.World.{ArgsD, ResD}
use borrow.Fn.Kinds.{ended_of}
use denote.Triple.Clauses.{AtExit}
use lib.Ieee.{nan}
use Rattle.ranges.proofs.Claims.{nan-between}
use Rattle.ranges.specs.contracts.in_range as in-range-contract
use Rattle.ranges.proofs.in_range.Kinds as in-range-kinds
use Rattle.ranges.proofs.in_range.Reads as in-range-reads
use Rattle.ranges.specs.contracts.whole_in_range as whole-in-range-contract
use Rattle.ranges.proofs.whole_in_range.Reads as whole-in-range-reads

module _ (κs : Lfts 0) (a : ArgsD in-range-contract.signature κs) (r : ResD in-range-contract.signature κs) (e : AtExit (ended_of 0 in-range-kinds.ps in-range-kinds.r) κs) where
  pub in_range_any : in-range-reads.Asked κs a
  in_range_any = tt

  pub nan-refused : in-range-reads.Learnt κs a r e → a.1.0 ≡ nan → r ≡ false
  nan-refused h n = rw n at h ∙ nan-between a.0

module _ (κs : Lfts 0) where
  pub whole_in_range_any : (a : ArgsD whole-in-range-contract.signature κs) → whole-in-range-reads.Asked κs a
  whole_in_range_any a = tt
