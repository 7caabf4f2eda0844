-- `reduce_angles` meets its contract. Assumes nothing.
use mathlib.Core.Path.{◌≡◌}
use Rattle.lists.proofs.Fills.{upto}
use Rattle.float64.specs.Arithmetic.{of}
use Rattle.elementary.specs.Wave.{reduced_angle}
use Rattle.lanes.proofs.wave.reduce_angles.Given as goal

abbrev pub invariant-loop-j : goal.invariant-loop-j
invariant-loop-j l = l.r ≡ upto l.j (λ n. reduced_angle (of l.t n)) l.initial.r
