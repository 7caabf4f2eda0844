-- `zero_below_700` meets its contract. Assumes nothing.
use mathlib.Core.Bool.{cond}
use lib.Ieee.{lt, neg}
use Rattle.lists.proofs.Fills.{upto_none}
use Rattle.float64.specs.Arithmetic.{of}
use Rattle.float64.specs.Constants.{nought, k700}
use Rattle.lanes.proofs.Lanes.{lanes_left, lane_changed}
use Rattle.lanes.proofs.exponential.zero_below_700.Goals as goal

pub loop-j-init : goal.loop-j-init
loop-j-init c = upto_none _ _

pub loop-j-preserved : goal.loop-j-preserved
loop-j-preserved c =
    let a = c.args in
    lane_changed (λ n z. cond (lt (of a.t.now n) (neg k700)) nought z) a.p.now c.loop-j.j c.loop-j.invariant c.power_or_zero.ensures

pub returns : goal.returns
returns c =
    let a = c.args in
    lanes_left 16 (λ n. cond (lt (of a.t.now n) (neg k700)) nought (of a.p.now n)) a.p.now c.loop-j.auto.j-end c.loop-j-test.false c.loop-j.invariant
