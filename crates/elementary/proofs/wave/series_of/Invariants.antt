-- `series_of` meets its contract. The loop's invariant: the turns still to be made give the answer of the whole loop. Assumes nothing.
use mathlib.Core.Path.{◌≡◌}
use Rattle.elementary.specs.Wave.{series, divisor}
use Rattle.elementary.proofs.wave.series_of.Given as goal

abbrev pub invariant-loop-k : goal.invariant-loop-k
invariant-loop-k l = series (divisor l.odd) l.k l.x l.q ≡ series (divisor l.odd) 13 l.x l.initial.q
