-- `divisor` meets its contract. Assumes nothing.
use Rattle.voltage_moves.specs.Moves.{sum_without}
use Rattle.conductances.specs.Conductances.{cell}
use Rattle.float64.specs.Arithmetic.{◌⊗◌, of}
use mathlib.Core.Path.{◌≡◌}
use Rattle.voltage_moves.proofs.moves.divisor.Given as goal

abbrev pub invariant-below : goal.invariant-below
invariant-below l = l.others ≡ sum_without l.i (λ k. cell l.m l.i k ⊗ of l.v k) l.j

abbrev pub invariant-above : goal.invariant-above
invariant-above l = l.others ≡ sum_without l.i (λ k. cell l.m l.i k ⊗ of l.v k) l.j
