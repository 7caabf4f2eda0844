-- `recover_voltages` meets its contract. Assumes nothing.
use Rattle.lists.proofs.Fills.{upto}
use mathlib.Core.Path.{◌≡◌}
use Rattle.float64.specs.Arithmetic.{of}
use Rattle.recovery.specs.Recovery.{recovering}
use Rattle.recovery.proofs.recovery.recover_voltages.Given as goal

abbrev pub invariant-loop-i : goal.invariant-loop-i
invariant-loop-i l = l.y ≡ upto l.i (λ k. recovering (of l.rated k) (of l.initial.y k)) l.initial.y
