-- `exp` meets its contract. Assumes nothing.
use mathlib.Core.Path.{refl, sym, ap, ◌∙◌}
use Rattle.lists.proofs.Counting.{at_end_lem}
use Rattle.elementary.specs.Exponential.{E, squared}
use Rattle.elementary.proofs.Series.{terms_more, terms_end, squared_more}
use Rattle.elementary.proofs.exponential.exp.Goals as goal

pub returns-then-t : goal.returns-then-t
unfolding E
returns-then-t c = simp c.if-t.true

pub loop-k-preserved : goal.loop-k-preserved
loop-k-preserved c = terms_more _ _ _ c.loop-k-test.true ∙ c.loop-k.invariant

pub loop-turn-init : goal.loop-turn-init
unfolding squared
loop-turn-init c = refl

pub loop-turn-preserved : goal.loop-turn-preserved
loop-turn-preserved c = rw c.loop-turn.invariant (squared_more _ _)

pub returns : goal.returns
unfolding E
returns c =
    let e = sym (terms_end _ _ _ c.loop-k-test.false) ∙ c.loop-k.invariant in
    simp c.if-t.false (at_end_lem (λ n. squared n c.loop-k.p) c.loop-turn.auto._turn-end c.loop-turn-test.false c.loop-turn.invariant ∙ ap (squared 10) e)
