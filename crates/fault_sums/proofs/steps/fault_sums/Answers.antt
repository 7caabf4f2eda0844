-- `fault_sums` meets its contract: the steps that are left lead from the sums to where all of them lead. Assumes nothing.
use Rattle.fault_sums.proofs.Blocks.{blocks_more, blocks_done}
use mathlib.Core.Path.{sym, ◌∙◌}
use Rattle.fault_sums.proofs.steps.fault_sums.Goals as goal

pub loop-step-preserved : goal.loop-step-preserved
loop-step-preserved c =
    blocks_more c.args.circuit c.args.circuit.type_factor c.args.dt_ms c.loop-step.step c.args.end c.loop-step.s c.block_from-block.result.steps.value c.block_from-block.ensures.steps c.block_from-block.ensures.currents c.add_block-s.ensures ∙ c.loop-step.invariant

pub returns : goal.returns
returns c =
    sym (blocks_done c.args.circuit c.args.circuit.type_factor c.args.dt_ms c.loop-step.step c.args.end c.loop-step.s c.loop-step-test.false) ∙ c.loop-step.invariant
