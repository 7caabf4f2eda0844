-- `station_currents` meets its contract. Assumes nothing.
use Rattle.flow_voltages.proofs.Columns.{part_sums}
use mathlib.Core.Path.{◌≡◌}
use Rattle.flow_voltages.proofs.balance.station_currents.Given as goal

abbrev pub invariant-loop-j : goal.invariant-loop-j
invariant-loop-j l = l.sums ≡ part_sums l.m.entries l.m.n.value l.v l.j
