-- `station_rates` meets its contract. Assumes nothing.
use Rattle.float64.specs.Arithmetic.{◌⊘◌, of}
use Rattle.lists.proofs.Fills.{upto}
use mathlib.Core.Path.{◌≡◌}
use Rattle.state_derivatives.proofs.derivatives.station_rates.Given as goal

abbrev pub invariant-loop-i : goal.invariant-loop-i
invariant-loop-i l = l.dy ≡ upto l.i (λ k. of l.nets k ⊘ of l.network.capacitance_f k) l.initial.dy
