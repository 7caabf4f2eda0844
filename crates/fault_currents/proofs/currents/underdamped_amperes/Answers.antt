-- `underdamped_amperes` meets its contract. Assumes nothing.
use Rattle.float64.specs.Arithmetic.{◌⊗◌}
use Rattle.elementary.specs.Exponential.{E}
use Rattle.elementary.specs.Wave.{S}
use Rattle.fault_currents.proofs.Composed.{lanes_through, lanes_joined}
use Rattle.fault_currents.proofs.currents.underdamped_amperes.Goals as goal

pub returns : goal.returns
returns c =
    let damping = lanes_through 16 E _ c.scaled.ensures c.exp_lanes.ensures in
    let wave = lanes_through 16 S _ c.scaled-2.ensures c.sin_lanes.ensures in
    lanes_joined 16 (λ x y. c.args.gain ⊗ x ⊗ y) _ _ c.args.i.now damping wave c.multiply.ensures
