-- `raise_voltages` meets its contract. Assumes nothing.
use Rattle.float64.specs.Choice.{max_of}
use Rattle.float64.specs.Arithmetic.{of}
use Rattle.float64.specs.Constants.{nought}
use Rattle.lists.proofs.Fills.{upto, upto_none, upto_more, upto_over, get_d_upto_out}
use Rattle.lists.proofs.Counting.{at_end_lem}
use lib.Ieee.{nan}
use native.Mathlib.Omega.{arith}
use mathlib.Core.Path.{◌∙◌}
use Rattle.transient.proofs.rk4.raise_voltages.Goals as goal

pub loop-i-init : goal.loop-i-init
loop-i-init c = upto_none _ _

pub loop-i-preserved : goal.loop-i-preserved
loop-i-preserved c =
    let y = c.args.moved.y in
    (upto_more _ _ _ c.loop-i.invariant (rw (c.max.ensures, c.loop-i.invariant, get_d_upto_out c.loop-i.i _ y nan c.loop-i.i (omega arith))))

pub returns : goal.returns
returns c =
    at_end_lem (λ k. upto k (λ i. max_of (of c.args.moved.y i) nought) c.args.moved.y) c.loop-i.auto.i-end c.loop-i-test.false c.loop-i.invariant
    ∙ upto_over c.args.n.value _ nan c.args.moved.y
