-- `too_many_steps` meets its contract. Assumes nothing.
use Rattle.rule_tests.specs.Rules.{too_many_steps}
use Rattle.timing.proofs.Stepping.{limit_kept}
use Rattle.rule_tests.proofs.tests.too_many_steps.Goals as goal

pub returns : goal.returns
unfolding too_many_steps
returns c = limit_kept _ _ c.total_steps.ensures
