-- `square_ten_times` meets its contract. Assumes nothing.
use mathlib.Core.Path.{◌≡◌}
use lib.Ieee.{nan}
use Rattle.float64.specs.Arithmetic.{of}
use Rattle.elementary.specs.Exponential.{squared}
use Rattle.lists.specs.Tables.{over}
use Rattle.lanes.proofs.exponential.square_ten_times.Given as goal

abbrev pub invariant-loop-turn : goal.invariant-loop-turn
invariant-loop-turn l = l.p ≡ over 16 (λ j. squared l._turn (of l.initial.p j)) nan l.initial.p
