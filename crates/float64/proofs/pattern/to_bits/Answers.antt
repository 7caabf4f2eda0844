-- `to_bits` meets its contract. Assumes nothing.
use mathlib.Core.Path.{sym, ◌∙◌}
use Rattle.float64.specs.Pattern.{bits_of}
use Rattle.float64.proofs.Tests.{ne_self, no_nan}
use Rattle.float64.proofs.pattern.to_bits.Goals as goal

pub returns-then-x : goal.returns-then-x
unfolding bits_of
returns-then-x c = simp (sym (ne_self _) ∙ c.if-x.true)

pub float_to_bits-result : goal.float_to_bits-result
float_to_bits-result c = no_nan _ c.if-x.false

pub returns-else-x : goal.returns-else-x
unfolding bits_of
returns-else-x c = simp (sym (ne_self _) ∙ c.if-x.false)
