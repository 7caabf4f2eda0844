-- `sin` meets its contract. Assumes nothing.
use mathlib.Core.Path.{◌∙◌}
use Rattle.elementary.specs.Wave.{S}
use Rattle.elementary.proofs.Reduced.{sine_divisor_lem}
use Rattle.elementary.proofs.wave.sin.Goals as goal

pub returns : goal.returns
unfolding S
returns c = c.clamp.ensures ∙ rw (c.series_of.ensures, sine_divisor_lem, c.reduced_angle-r.ensures)
