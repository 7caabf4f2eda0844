-- `reduce_angles` meets its contract. Assumes nothing.
use Rattle.lists.proofs.Fills.{upto_none, upto_more}
use Rattle.float64.specs.Arithmetic.{of}
use Rattle.elementary.specs.Wave.{reduced_angle}
use Rattle.lanes.proofs.Lanes.{lanes_left}
use Rattle.lanes.proofs.wave.reduce_angles.Goals as goal

pub loop-j-init : goal.loop-j-init
loop-j-init c = upto_none _ _

pub loop-j-preserved : goal.loop-j-preserved
loop-j-preserved c = upto_more _ _ _ c.loop-j.invariant c.reduced_angle.ensures

pub returns : goal.returns
returns c =
    let a = c.args in
    lanes_left 16 (λ n. reduced_angle (of a.t.now n)) a.r.now c.loop-j.auto.j-end c.loop-j-test.false c.loop-j.invariant
