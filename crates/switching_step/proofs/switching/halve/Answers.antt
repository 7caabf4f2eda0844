-- `halve` meets its contract. Assumes nothing.
use Rattle.std.proofs.lemmas.List.Edits.{map_over_more}
use Rattle.lists.proofs.Fills.{get_d_within}
use Rattle.float64.specs.Arithmetic.{of, ◌⊗◌}
use Rattle.float64.specs.Constants.{half}
use lib.Ieee.{Float, nan}
use native.Mathlib.Omega.{arith}
use Rattle.switching_step.proofs.switching.halve.Goals as goal

pub loop-current-preserved : goal.loop-current-preserved
loop-current-preserved c =
    let y = c.loop-current.currents in
    let i = c.loop-current.current-index in
    map_over_more (λ (x : Float). x ⊗ half) c.args.currents.now y i (of y i) c.loop-current-test.true c.loop-current.invariant (get_d_within y i nan (of y i) (omega arith))
