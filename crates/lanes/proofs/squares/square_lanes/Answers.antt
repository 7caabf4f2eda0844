-- `square_lanes` meets its contract. Assumes nothing.
use mathlib.Core.Path.{refl}
use Rattle.lists.proofs.Fills.{upto_none}
use Rattle.float64.specs.Arithmetic.{of, ◌⊗◌}
use Rattle.lanes.proofs.Lanes.{lanes_left, lane_changed}
use Rattle.lanes.proofs.squares.square_lanes.Goals as goal

pub loop-j-init : goal.loop-j-init
loop-j-init c = upto_none _ _

pub loop-j-preserved : goal.loop-j-preserved
loop-j-preserved c =
    let a = c.args in
    lane_changed (λ n z. z ⊗ z) a.p.now c.loop-j.j c.loop-j.invariant refl

pub returns : goal.returns
returns c =
    let a = c.args in
    lanes_left 16 (λ n. of a.p.now n ⊗ of a.p.now n) a.p.now c.loop-j.auto.j-end c.loop-j-test.false c.loop-j.invariant
