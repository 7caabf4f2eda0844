-- `clamp` meets its contract. Assumes nothing.
use mathlib.Core.Path.{◌∙◌}
use Rattle.float64.proofs.Choosing.{clamp_is}
use Rattle.float64.proofs.choice.clamp.Goals as goal

pub returns : goal.returns
returns c = c.at_most.ensures ∙ rw (clamp_is, c.at_least.ensures)
