-- `subtract` meets its contract. Assumes nothing.
use mathlib.Core.Path.{◌≡◌}
use Rattle.lists.proofs.Fills.{upto}
use Rattle.float64.specs.Arithmetic.{of, ◌⊖◌, ◌⊗◌}
use Rattle.fault_currents.proofs.currents.subtract.Given as goal

abbrev pub invariant-loop-j : goal.invariant-loop-j
invariant-loop-j l = l.i ≡ upto l.j (λ n. l.gain ⊗ (of l.p n ⊖ of l.q n)) l.initial.i
