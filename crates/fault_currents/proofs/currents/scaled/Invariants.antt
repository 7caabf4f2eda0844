-- `scaled` meets its contract: lane by lane. Assumes nothing.
use mathlib.Core.Path.{◌≡◌}
use Rattle.lists.specs.Tables.{blank}
use Rattle.lists.proofs.Fills.{upto}
use Rattle.float64.specs.Constants.{nought}
use Rattle.float64.specs.Arithmetic.{of, ◌⊗◌}
use Rattle.fault_currents.proofs.currents.scaled.Given as goal

abbrev pub invariant-loop-j : goal.invariant-loop-j
invariant-loop-j l = l.x ≡ upto l.j (λ n. l.a ⊗ of l.t n) (blank 16 nought)
