-- `capacitance_of` meets its contract. Assumes nothing.
use Rattle.float64.specs.Arithmetic.{sum_of}
use Rattle.grid.specs.Simulator.{blank_station}
use mathlib.Core.Path.{◌≡◌}
use lib.ListN.{get_or}
use Rattle.fault_circuit.proofs.parameters.capacitance_of.Given as goal

abbrev pub invariant-loop-s : goal.invariant-loop-s
invariant-loop-s l = l.sum ≡ sum_of (λ k. (get_or l.stations k blank_station).sm_capacitance_uf) l.s-index
