-- `critical_amperes` meets its contract. Assumes nothing.
use mathlib.Core.Path.{◌∙◌}
use Rattle.float64.specs.Arithmetic.{of, ◌⊗◌}
use Rattle.elementary.specs.Exponential.{E}
use Rattle.fault_currents.proofs.Composed.{lanes_through, lanes_read}
use Rattle.fault_currents.proofs.currents.critical_amperes.Goals as goal

pub returns : goal.returns
returns c =
    let damping = lanes_through 16 E _ c.scaled.ensures c.exp_lanes.ensures in
    c.multiply.ensures ∙ lanes_read 16 (λ j x. c.args.gain ⊗ of c.args.t.now j ⊗ x) _ c.args.i.now damping
