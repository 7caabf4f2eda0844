-- `move_along` meets its contract. Assumes nothing.
use Rattle.transient.specs.Rk4.{ahead}
use Rattle.float64.specs.Arithmetic.{◌⊕◌, ◌⊗◌, of}
use Rattle.float64.specs.Constants.{nought}
use Rattle.lists.proofs.Fills.{upto, upto_none, upto_more, upto_padded}
use Rattle.lists.proofs.Counting.{at_end_lem}
use Rattle.lists.specs.Tables.{blank}
use mathlib.Core.Path.{refl, ◌∙◌}
use Rattle.transient.proofs.rk4.move_along.Goals as goal

pub loop-i-init : goal.loop-i-init
unfolding blank
loop-i-init c = upto_none _ _

pub loop-i-preserved : goal.loop-i-preserved
loop-i-preserved c =
    upto_more _ _ _ c.loop-i.invariant refl

pub returns : goal.returns
unfolding ahead
returns c =
    at_end_lem (λ n. upto n (λ i. of c.args.start.y i ⊕ c.args.h ⊗ of c.args.k.dy i) (blank 96 nought)) c.loop-i.auto.i-end c.loop-i-test.false c.loop-i.invariant
    ∙ upto_padded c.args.size.value 96 _ nought c.args.size.fits
