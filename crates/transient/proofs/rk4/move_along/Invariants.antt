-- `move_along` meets its contract. Assumes nothing.
use Rattle.float64.specs.Arithmetic.{◌⊕◌, ◌⊗◌, of}
use Rattle.float64.specs.Constants.{nought}
use Rattle.lists.proofs.Fills.{upto}
use Rattle.lists.specs.Tables.{blank}
use mathlib.Core.Path.{◌≡◌}
use Rattle.transient.proofs.rk4.move_along.Given as goal

abbrev pub invariant-loop-i : goal.invariant-loop-i
invariant-loop-i l = l.out ≡ upto l.i (λ j. of l.y j ⊕ l.h ⊗ of l.dy j) (blank 96 nought)
