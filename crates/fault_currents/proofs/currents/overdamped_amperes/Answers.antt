-- `overdamped_amperes` meets its contract. Assumes nothing.
use Rattle.float64.specs.Arithmetic.{◌⊖◌, ◌⊗◌}
use Rattle.elementary.specs.Exponential.{E}
use Rattle.fault_currents.proofs.Composed.{lanes_through, lanes_joined}
use Rattle.fault_currents.proofs.currents.overdamped_amperes.Goals as goal

pub returns : goal.returns
returns c =
    let first = lanes_through 16 E _ c.scaled.ensures c.exp_lanes.ensures in
    let second = lanes_through 16 E _ c.scaled-2.ensures c.exp_lanes-2.ensures in
    lanes_joined 16 (λ x y. c.args.gain ⊗ (x ⊖ y)) _ _ c.args.i.now first second c.subtract.ensures
