-- `site_sums` meets its contract: the steps that are left lead from the sums of each type to where all of them lead. Assumes nothing.
use Rattle.fault_circuit.specs.Constants.{ground_part, internal_part}
use Rattle.float64.specs.Constants.{one}
use Rattle.fault_sums.proofs.Blocks.{blocks_more}
use mathlib.Core.Path.{◌∙◌}
use Rattle.fault_sums.proofs.steps.site_sums.Goals as goal

pub loop-at-preserved : goal.loop-at-preserved
loop-at-preserved c =
    let b = c.add_site_block-s.ensures in
    let s = c.loop-at.s in (
      blocks_more c.args.circuit ground_part c.args.dt_ms c.loop-at.at c.args.end s.to_ground c.block_from-block.result.steps.value c.block_from-block.ensures.steps c.block_from-block.ensures.currents b.0 ∙ c.loop-at.invariant.0,
      blocks_more c.args.circuit one c.args.dt_ms c.loop-at.at c.args.end s.pole c.block_from-block.result.steps.value c.block_from-block.ensures.steps c.block_from-block.ensures.currents b.1 ∙ c.loop-at.invariant.1,
      blocks_more c.args.circuit internal_part c.args.dt_ms c.loop-at.at c.args.end s.internal c.block_from-block.result.steps.value c.block_from-block.ensures.steps c.block_from-block.ensures.currents b.2 ∙ c.loop-at.invariant.2,
    )
