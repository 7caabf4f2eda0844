-- `subtract_term` meets its contract. Assumes nothing.
use mathlib.Core.Path.{◌≡◌}
use Rattle.lists.proofs.Fills.{upto}
use Rattle.float64.specs.Arithmetic.{of, ◌⊖◌, ◌⊗◌, ◌⊘◌}
use Rattle.float64.specs.Constants.{one}
use Rattle.lanes.proofs.wave.subtract_term.Given as goal

abbrev pub invariant-loop-j : goal.invariant-loop-j
invariant-loop-j l = l.q ≡ upto l.j (λ n. one ⊖ of l.x n ⊗ of l.initial.q n ⊘ l.d) l.initial.q
