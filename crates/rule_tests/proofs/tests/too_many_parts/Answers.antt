-- `too_many_parts` meets its contract. Assumes nothing.
use mathlib.Core.Path.{refl}
use Rattle.rule_tests.specs.Rules.{too_many_parts}
use Rattle.rule_tests.proofs.tests.too_many_parts.Goals as goal

pub returns : goal.returns
unfolding too_many_parts
returns c = refl
