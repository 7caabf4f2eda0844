-- `blend` meets its contract. Assumes nothing.
use lib.Ieee.{Float}
use Prim.Native.Nat.{ℕ}
use Rattle.transient.specs.Rk4.{weighted, blended}
use Rattle.float64.specs.Arithmetic.{◌⊕◌, ◌⊗◌, of}
use Rattle.float64.specs.Constants.{nought}
use Rattle.lists.proofs.Fills.{upto, upto_none, upto_more, upto_padded}
use Rattle.lists.proofs.Counting.{at_end_lem}
use Rattle.lists.specs.Tables.{blank}
use mathlib.Core.Path.{◌∙◌}
use Rattle.transient.proofs.rk4.blend.Goals as goal

pub loop-i-init : goal.loop-i-init
unfolding blank
loop-i-init c = upto_none _ _

pub loop-i-preserved : goal.loop-i-preserved
loop-i-preserved c =
    upto_more _ _ _ c.loop-i.invariant (rw c.weigh.ensures)

pub returns : goal.returns
unfolding blended
returns c =
    let f : ℕ → Float = λ i. of c.args.start.y i ⊕ c.args.sixth ⊗ weighted (of c.args.k1.dy i) (of c.args.k2.dy i) (of c.args.k3.dy i) (of c.args.k4.dy i) in
    at_end_lem (λ n. upto n f (blank 96 nought)) c.loop-i.auto.i-end c.loop-i-test.false c.loop-i.invariant
    ∙ upto_padded c.args.size.value 96 f nought c.args.size.fits
