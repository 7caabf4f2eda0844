-- `zero_below_700` meets its contract. Assumes nothing.
use mathlib.Core.Path.{◌≡◌}
use mathlib.Core.Bool.{cond}
use lib.Ieee.{lt, neg}
use Rattle.lists.proofs.Fills.{upto}
use Rattle.float64.specs.Arithmetic.{of}
use Rattle.float64.specs.Constants.{nought, k700}
use Rattle.lanes.proofs.exponential.zero_below_700.Given as goal

abbrev pub invariant-loop-j : goal.invariant-loop-j
invariant-loop-j l = l.p ≡ upto l.j (λ n. cond (lt (of l.t n) (neg k700)) nought (of l.initial.p n)) l.initial.p
