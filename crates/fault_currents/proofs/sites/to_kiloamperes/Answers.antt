-- `to_kiloamperes` meets its contract. Assumes nothing.
use Rattle.lists.proofs.Fills.{upto_none}
use Rattle.float64.specs.Arithmetic.{of, ◌⊗◌, ◌⊘◌}
use Rattle.float64.specs.Constants.{kilo}
use Rattle.float64.specs.Choice.{abs_of}
use Rattle.lanes.proofs.Lanes.{lanes_left, lane_changed}
use Rattle.fault_currents.proofs.sites.to_kiloamperes.Goals as goal

pub loop-j-init : goal.loop-j-init
loop-j-init c = upto_none _ _

pub loop-j-preserved : goal.loop-j-preserved
loop-j-preserved c =
    lane_changed (λ n z. abs_of z ⊘ kilo ⊗ c.args.factor) c.args.i.now c.loop-j.j c.loop-j.invariant (rw c.abs.ensures)

pub returns : goal.returns
returns c =
    lanes_left 16 (λ n. abs_of (of c.args.i.now n) ⊘ kilo ⊗ c.args.factor) c.args.i.now c.loop-j.auto.j-end c.loop-j-test.false c.loop-j.invariant
