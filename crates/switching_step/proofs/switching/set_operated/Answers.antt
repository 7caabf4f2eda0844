-- `set_operated` meets its contract. Assumes nothing.
use Rattle.lists.proofs.Fills.{upto, upto_none, upto_more, upto_over, get_d_upto_out}
use Rattle.lists.proofs.Counting.{at_end_lem}
use native.Mathlib.Omega.{arith}
use mathlib.Core.Path.{◌∙◌}
use Rattle.switching_plan.specs.Switching.{is_operated}
use mathlib.Core.Bool.{false, not, cond}
use lib.ListN.{length, get_or}
use Rattle.switching_step.proofs.switching.set_operated.Goals as goal

pub loop-i-init : goal.loop-i-init
loop-i-init c = upto_none _ _

pub loop-i-preserved : goal.loop-i-preserved
loop-i-preserved c =
    upto_more _ _ _ c.loop-i.invariant (rw (c.operated.ensures, c.loop-i.invariant, get_d_upto_out c.loop-i.i _ c.args.breakers.now false c.loop-i.i (omega arith)))

pub returns : goal.returns
returns c =
    let before = c.args.breakers.now in
    let n = length before in
    at_end_lem (λ k. upto k (λ i. cond (is_operated n c.args.breaker_id i) (not c.args.open) (get_or before i false)) before) c.loop-i.auto.i-end c.loop-i-test.false c.loop-i.invariant
    ∙ upto_over n _ false before
