-- `square_lanes` meets its contract. Assumes nothing.
use mathlib.Core.Path.{◌≡◌}
use Rattle.lists.proofs.Fills.{upto}
use Rattle.float64.specs.Arithmetic.{of, ◌⊗◌}
use Rattle.lanes.proofs.squares.square_lanes.Given as goal

abbrev pub invariant-loop-j : goal.invariant-loop-j
invariant-loop-j l = l.p ≡ upto l.j (λ n. of l.initial.p n ⊗ of l.initial.p n) l.initial.p
