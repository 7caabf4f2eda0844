-- `add_block` meets its contract. Assumes nothing.
use Rattle.fault_sums.proofs.Blocks.{typed_lanes}
use Rattle.fault_plan.specs.Fault.{dissipated}
use mathlib.Core.Path.{◌∙◌}
use Rattle.fault_sums.proofs.steps.add_block.Goals as goal

pub returns : goal.returns
returns c =
    c.add_lanes.ensures ∙ typed_lanes (dissipated c.args.dt_ms c.args.r_ohm) c.args.factor c.args.block.now.current_ka c.args.block.now.steps.value c.args.start c.args.block.now.steps.fits c.typed_currents-typed.ensures c.heats-heat.ensures
