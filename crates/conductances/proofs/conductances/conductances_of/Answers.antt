-- `conductances_of` meets its contract. Assumes nothing.
use Rattle.conductances.proofs.Entries.{matrix-none, matrix_more}
use Rattle.lists.specs.Tables.{blank}
use mathlib.Core.Path.{◌∙◌}
use Rattle.conductances.proofs.conductances.conductances_of.Goals as goal

pub loop-c-init : goal.loop-c-init
unfolding blank
loop-c-init c = matrix-none c.of-n.result.value

pub loop-c-preserved : goal.loop-c-preserved
loop-c-preserved c =
    c.connect.ensures ∙ rw c.loop-c.invariant (matrix_more c.of-n.result.value _ c.present_cables-cables.result.now c.loop-c.c-index c.loop-c-test.true)
