-- `divide_by_1024` meets its contract. Assumes nothing.
use mathlib.Core.Path.{◌≡◌}
use Rattle.lists.proofs.Fills.{upto}
use Rattle.float64.specs.Arithmetic.{of, ◌⊘◌}
use Rattle.float64.specs.Constants.{k1024}
use Rattle.lanes.proofs.exponential.divide_by_1024.Given as goal

abbrev pub invariant-loop-j : goal.invariant-loop-j
invariant-loop-j l = l.y ≡ upto l.j (λ n. of l.t n ⊘ k1024) l.initial.y
