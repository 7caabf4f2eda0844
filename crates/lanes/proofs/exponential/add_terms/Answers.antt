-- `add_terms` meets its contract. Assumes nothing.
use mathlib.Core.Path.{◌∙◌}
use Rattle.lanes.proofs.Turns.{terms-turn, terms_done}
use Rattle.lanes.proofs.exponential.add_terms.Goals as goal

pub loop-k-preserved : goal.loop-k-preserved
loop-k-preserved c = terms-turn 16 c.args.y.now c.loop-k.k c.loop-k.p c.loop-k-test.true c.add_term.ensures ∙ c.loop-k.invariant

pub returns : goal.returns
returns c = terms_done 16 c.args.y.now c.loop-k.k c.loop-k.p c.loop-k-test.false ∙ c.loop-k.invariant
