-- `recover_voltages` meets its contract. Assumes nothing.
use Rattle.lists.proofs.Fills.{upto, upto_none, upto_more, upto_over, get_d_upto_out}
use Rattle.lists.proofs.Counting.{at_end_lem}
use native.Mathlib.Omega.{arith}
use Prim.Native.Nat.{ℕ}
use mathlib.Core.Path.{◌∙◌}
use Rattle.float64.specs.Arithmetic.{of}
use Rattle.recovery.specs.Recovery.{recovering}
use lib.Ieee.{Float, nan}
use Rattle.lists.specs.Tables.{over}
use Rattle.recovery.proofs.recovery.recover_voltages.Goals as goal

pub loop-i-init : goal.loop-i-init
loop-i-init c = upto_none _ _

pub loop-i-preserved : goal.loop-i-preserved
loop-i-preserved c =
    upto_more _ _ _ c.loop-i.invariant (rw (c.recovered.ensures, c.loop-i.invariant, get_d_upto_out c.loop-i.i _ c.args.y.now nan c.loop-i.i (omega arith)))

pub returns : goal.returns
returns c =
    let moved : ℕ → Float = λ i. recovering (of c.args.rated.now i) (of c.args.y.now i) in
    at_end_lem (λ k. upto k moved c.args.y.now) c.loop-i.auto.i-end c.loop-i-test.false c.loop-i.invariant
    ∙ upto_over c.of-n.result.value moved nan c.args.y.now
    ∙ λ i. over (c.of-n.ensures i) moved nan c.args.y.now
