-- `subtract` meets its contract. Assumes nothing.
use mathlib.Core.Path.{refl}
use Rattle.lists.proofs.Fills.{upto_none, upto_more}
use Rattle.float64.specs.Arithmetic.{of, ◌⊖◌, ◌⊗◌}
use Rattle.lanes.proofs.Lanes.{lanes_left}
use Rattle.fault_currents.proofs.currents.subtract.Goals as goal

pub loop-j-init : goal.loop-j-init
loop-j-init c = upto_none _ _

pub loop-j-preserved : goal.loop-j-preserved
loop-j-preserved c = upto_more _ _ _ c.loop-j.invariant refl

pub returns : goal.returns
returns c =
    lanes_left 16 (λ n. c.args.gain ⊗ (of c.args.p.now n ⊖ of c.args.q.now n)) c.args.i.now c.loop-j.auto.j-end c.loop-j-test.false c.loop-j.invariant
