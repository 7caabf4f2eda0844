-- `breakers_all` meets its contract. Assumes nothing.
use Rattle.lists.proofs.Fills.{upto, upto_none, upto_more, upto_padded}
use Rattle.lists.proofs.Counting.{at_end_lem}
use Rattle.lists.specs.Tables.{blank, padded}
use Rattle.std.proofs.Common.{ℕ, false, refl, ap, ◌∙◌, arith}
use Rattle.run_start.proofs.start.breakers_all.Goals as goal

pub loop-i-init : goal.loop-i-init
unfolding blank
loop-i-init c = upto_none _ _

pub loop-i-preserved : goal.loop-i-preserved
loop-i-preserved c = upto_more _ _ _ c.loop-i.invariant refl

pub returns : goal.returns
returns c =
    let closed = c.args.closed in
    at_end_lem (λ k. upto k (λ _. closed) (blank 32 false)) c.loop-i.auto.i-end c.loop-i-test.false c.loop-i.invariant
    ∙ upto_padded c.of-n.result.value 32 _ false (omega (arith, c.of-n.ensures))
    ∙ ap (λ (n : ℕ). padded 32 n (λ _. closed) false) c.of-n.ensures
