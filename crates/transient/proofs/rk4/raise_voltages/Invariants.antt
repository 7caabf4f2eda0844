-- `raise_voltages` meets its contract. Assumes nothing.
use Rattle.float64.specs.Choice.{max_of}
use Rattle.float64.specs.Arithmetic.{of}
use Rattle.float64.specs.Constants.{nought}
use Rattle.lists.proofs.Fills.{upto}
use mathlib.Core.Path.{◌≡◌}
use Rattle.transient.proofs.rk4.raise_voltages.Given as goal

abbrev pub invariant-loop-i : goal.invariant-loop-i
invariant-loop-i l = l.y ≡ upto l.i (λ k. max_of (of l.initial.y k) nought) l.initial.y
