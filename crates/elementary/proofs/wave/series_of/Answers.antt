-- `series_of` meets its contract. The loop's invariant: the turns still to be made give the answer of the whole loop. Assumes nothing.
use mathlib.Core.Path.{sym, ◌∙◌}
use Rattle.elementary.proofs.Series.{series_more, series_end}
use Rattle.elementary.proofs.wave.series_of.Goals as goal

pub loop-k-preserved : goal.loop-k-preserved
loop-k-preserved c = series_more _ _ _ _ c.loop-k-test.true ∙ c.loop-k.invariant

pub returns : goal.returns
returns c = sym (series_end _ _ _ _ c.loop-k-test.false) ∙ c.loop-k.invariant
