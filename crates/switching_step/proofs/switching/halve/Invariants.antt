-- `halve` meets its contract. Assumes nothing.
use Rattle.std.proofs.Common.{◌≡◌, ◌++◌, map, take, drop}
use Rattle.float64.specs.Arithmetic.{◌⊗◌}
use Rattle.float64.specs.Constants.{half}
use lib.Ieee.{Float}
use Rattle.switching_step.proofs.switching.halve.Given as goal

abbrev pub invariant-loop-current : goal.invariant-loop-current
invariant-loop-current l =
    l.currents ≡ map (λ (i : Float). i ⊗ half) (take l.current-index l.initial.currents) ++ drop l.current-index l.initial.currents
