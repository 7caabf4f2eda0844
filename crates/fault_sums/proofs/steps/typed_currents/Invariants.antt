-- `typed_currents` meets its contract: lane by lane. Assumes nothing.
use Rattle.lists.proofs.Fills.{upto}
use Rattle.lists.specs.Tables.{blank}
use Rattle.float64.specs.Constants.{nought}
use Rattle.float64.specs.Arithmetic.{◌⊗◌, of}
use mathlib.Core.Path.{◌≡◌}
use Rattle.fault_sums.proofs.steps.typed_currents.Given as goal

abbrev pub invariant-loop-j : goal.invariant-loop-j
invariant-loop-j l = l.typed ≡ upto l.j (λ k. of l.i k ⊗ l.factor) (blank 16 nought)
