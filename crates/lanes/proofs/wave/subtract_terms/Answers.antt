-- `subtract_terms` meets its contract. Assumes nothing.
use mathlib.Core.Path.{◌∙◌}
use lib.Ieee.{nan}
use Rattle.float64.specs.Arithmetic.{of}
use Rattle.elementary.specs.Wave.{series, divisor}
use Rattle.elementary.proofs.Reduced.{sine_divisor_lem}
use Rattle.lanes.proofs.Turns.{series-turn, series_done}
use Rattle.lists.specs.Tables.{over}
use Rattle.lanes.proofs.wave.subtract_terms.Goals as goal

pub loop-k-preserved : goal.loop-k-preserved
loop-k-preserved c =
    series-turn 16 c.args.x.now (divisor 1) c.loop-k.k c.loop-k.q c.loop-k-test.true c.subtract_term.ensures ∙ c.loop-k.invariant

pub returns : goal.returns
returns c =
    let a = c.args in
    series_done 16 a.x.now (divisor 1) c.loop-k.k c.loop-k.q c.loop-k-test.false
    ∙ c.loop-k.invariant
    ∙ (λ i. over 16 (λ j. series (sine_divisor_lem i) 13 (of a.x.now j) (of a.q.now j)) nan a.q.now)
