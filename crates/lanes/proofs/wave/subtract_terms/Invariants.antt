-- `subtract_terms` meets its contract. Assumes nothing.
use mathlib.Core.Path.{◌≡◌}
use lib.Ieee.{nan}
use Rattle.float64.specs.Arithmetic.{of}
use Rattle.elementary.specs.Wave.{series, divisor}
use Rattle.lists.specs.Tables.{over}
use Rattle.lanes.proofs.wave.subtract_terms.Given as goal

abbrev pub invariant-loop-k : goal.invariant-loop-k
invariant-loop-k l =
    over 16 (λ j. series (divisor 1) l.k (of l.x j) (of l.q j)) nan l.q ≡ over 16 (λ j. series (divisor 1) 13 (of l.x j) (of l.initial.q j)) nan l.initial.q
