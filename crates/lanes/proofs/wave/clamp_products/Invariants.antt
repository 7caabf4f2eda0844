-- `clamp_products` meets its contract. Assumes nothing.
use mathlib.Core.Path.{◌≡◌}
use Rattle.lists.proofs.Fills.{upto}
use Rattle.float64.specs.Arithmetic.{of, ◌⊗◌}
use Rattle.elementary.specs.Wave.{to_unit}
use Rattle.lanes.proofs.wave.clamp_products.Given as goal

abbrev pub invariant-loop-j : goal.invariant-loop-j
invariant-loop-j l = l.q ≡ upto l.j (λ n. to_unit (of l.r n ⊗ of l.initial.q n)) l.initial.q
