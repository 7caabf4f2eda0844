-- `add_lanes` meets its contract: folding what is left completes the fold of all. Assumes nothing.
use Rattle.fault_sums.proofs.Blocks.{lanes_more}
use Rattle.float64.specs.Arithmetic.{of}
use mathlib.Core.Path.{◌∙◌}
use Rattle.fault_sums.proofs.steps.add_lanes.Goals as goal

pub loop-lane-preserved : goal.loop-lane-preserved
loop-lane-preserved c =
    rw c.add_step-s.ensures (lanes_more (of c.args.i.now) (of c.args.heat.now) c.loop-lane.lane c.args.steps.value c.loop-lane.s c.loop-lane-test.true) ∙ c.loop-lane.invariant
