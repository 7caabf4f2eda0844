-- `add_quotients` meets its contract. Assumes nothing.
use mathlib.Core.Path.{◌≡◌}
use Rattle.lists.proofs.Fills.{upto}
use Rattle.float64.specs.Arithmetic.{of, ◌⊕◌, ◌⊗◌, ◌⊘◌}
use Rattle.float64.specs.Constants.{one}
use Rattle.lanes.proofs.exponential.add_quotients.Given as goal

abbrev pub invariant-loop-j : goal.invariant-loop-j
invariant-loop-j l = l.p ≡ upto l.j (λ n. one ⊕ of l.y n ⊗ of l.initial.p n ⊘ l.d) l.initial.p
