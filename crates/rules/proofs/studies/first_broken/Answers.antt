-- `first_broken` meets its contract. Assumes nothing.
use mathlib.Core.Path.{sym, ◌∙◌}
use Rattle.rules.specs.Studies.{number_of}
use Rattle.rules.proofs.Refused.{found, passed_by, all_passed}
use Rattle.rules.specs.declared.studies.Refusal.TheVariants.{NoStation}
use Rattle.rules.proofs.studies.first_broken.Goals as goal

pub returns-then-breaks : goal.returns-then-breaks
unfolding number_of
returns-then-breaks c = found _ _ _ _ c.loop-rule.invariant c.loop-rule-test.true (sym c.breaks.ensures ∙ c.if-breaks.true)

pub loop-rule-preserved : goal.loop-rule-preserved
loop-rule-preserved c = passed_by _ _ _ NoStation c.loop-rule.invariant c.loop-rule-test.true (sym c.breaks.ensures ∙ c.if-breaks.false)

pub returns : goal.returns
unfolding number_of
returns c = all_passed _ _ _ NoStation c.loop-rule.invariant c.loop-rule-test.false
