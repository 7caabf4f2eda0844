-- Breakers that are counted: what the code's slices say in the words of the definitions. Assumes nothing.
use Prim.Native.Nat.{ℕ, ◌<◌}
use native.Mathlib.Omega.{arith}
use mathlib.Core.Path.{◌≡◌, sym, ap, ◌∙◌}
use mathlib.Core.Bool.{Bool, ◌&&◌}
use mathlib.Core.List.{List}
use lib.ListN.{length, get_or, take, length-take}
use lib.Ieee.{Float}
use Rattle.std.proofs.lemmas.List.{get_or-take}
use Rattle.lists.specs.Scans.{some}
use Rattle.lists.proofs.Scanning.{some_same}
use Rattle.lists.proofs.Fills.{get_d_within}
use Rattle.grid.specs.Simulator.{blank_breaker}
use Rattle.grid.specs.declared.parts.DcBreaker.{DcBreaker}
use Rattle.grid.specs.declared.parts.DcCable.{DcCable}
use Rattle.case_reasons.specs.declared.reasons.Limit.{Limit}
use Rattle.case_reasons.specs.Reasons.{at_end, exceeds, limit_of, exceeded_by}

module _ (breakers : List DcBreaker) (cable : DcCable) (limit : Limit) (value : Float) where
  -- what is found of the breaker that a loop comes to
  pub exceeded_here
      : (i : ℕ) (d : DcBreaker) {b : Bool} → i < length breakers → b ≡ (at_end cable (get_or breakers i d) && exceeds value (limit_of limit (get_or breakers i d)))
      → exceeded_by breakers cable limit value i ≡ b
  exceeded_here i d l e = ap (λ b. at_end cable b && exceeds value (limit_of limit b)) (get_d_within breakers i blank_breaker d l) ∙ sym e

  -- a breaker of those that there are is one of all places
  pub exceeded_present : (n : ℕ) → some (length (take n breakers)) (exceeded_by (take n breakers) cable limit value) ≡ some (length (take n breakers)) (exceeded_by breakers cable limit value)
  exceeded_present n =
      some_same _ _ (length (take n breakers))
      (λ k l. ap (λ b. at_end cable b && exceeds value (limit_of limit b)) (get_or-take n breakers k blank_breaker (omega (arith, length-take n breakers))))
