-- `blend` meets its contract. Assumes nothing.
use Rattle.transient.specs.Rk4.{weighted}
use Rattle.float64.specs.Arithmetic.{◌⊕◌, ◌⊗◌, of}
use Rattle.float64.specs.Constants.{nought}
use Rattle.lists.proofs.Fills.{upto}
use Rattle.lists.specs.Tables.{blank}
use mathlib.Core.Path.{◌≡◌}
use Rattle.transient.proofs.rk4.blend.Given as goal

abbrev pub invariant-loop-i : goal.invariant-loop-i
invariant-loop-i l =
    l.out ≡ upto l.i (λ j. of l.y j ⊕ l.sixth ⊗ weighted (of l.dy1 j) (of l.dy2 j) (of l.dy3 j) (of l.dy4 j)) (blank 96 nought)
