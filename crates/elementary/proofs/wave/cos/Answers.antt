-- `cos` meets its contract. Assumes nothing.
use mathlib.Core.Path.{◌∙◌}
use Rattle.elementary.specs.Wave.{C}
use Rattle.elementary.proofs.Reduced.{cosine_divisor_lem}
use Rattle.elementary.proofs.wave.cos.Goals as goal

pub returns : goal.returns
unfolding C
returns c = c.clamp.ensures ∙ rw (c.series_of.ensures, cosine_divisor_lem)
