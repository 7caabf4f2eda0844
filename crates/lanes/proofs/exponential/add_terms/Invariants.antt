-- `add_terms` meets its contract. Assumes nothing.
use mathlib.Core.Path.{◌≡◌}
use lib.Ieee.{nan}
use Rattle.float64.specs.Arithmetic.{of}
use Rattle.elementary.specs.Exponential.{terms}
use Rattle.lists.specs.Tables.{over}
use Rattle.lanes.proofs.exponential.add_terms.Given as goal

abbrev pub invariant-loop-k : goal.invariant-loop-k
invariant-loop-k l = over 16 (λ j. terms l.k (of l.y j) (of l.p j)) nan l.p ≡ over 16 (λ j. terms 18 (of l.y j) (of l.initial.p j)) nan l.initial.p
