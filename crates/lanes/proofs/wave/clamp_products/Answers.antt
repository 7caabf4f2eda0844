-- `clamp_products` meets its contract. Assumes nothing.
use Rattle.lists.proofs.Fills.{upto_none}
use Rattle.float64.specs.Arithmetic.{of, ◌⊗◌}
use Rattle.elementary.specs.Wave.{to_unit}
use Rattle.lanes.proofs.Lanes.{lanes_left, lane_changed}
use Rattle.lanes.proofs.wave.clamp_products.Goals as goal

pub loop-j-init : goal.loop-j-init
loop-j-init c = upto_none _ _

pub loop-j-preserved : goal.loop-j-preserved
loop-j-preserved c =
    let a = c.args in
    lane_changed (λ n z. to_unit (of a.r.now n ⊗ z)) a.q.now c.loop-j.j c.loop-j.invariant c.clamp.ensures

pub returns : goal.returns
returns c =
    let a = c.args in
    lanes_left 16 (λ n. to_unit (of a.r.now n ⊗ of a.q.now n)) a.q.now c.loop-j.auto.j-end c.loop-j-test.false c.loop-j.invariant
