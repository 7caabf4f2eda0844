-- `joined_capacitance` meets its contract. Assumes nothing.
use Rattle.std.proofs.Common.{◌≡◌, take}
use Rattle.network.specs.Capacitance.{joined_capacitance}
use Rattle.network.proofs.capacitance.joined_capacitance.Given as goal

abbrev pub invariant-loop-c : goal.invariant-loop-c
invariant-loop-c l = l.joined ≡ joined_capacitance l.id (take l.c-index l.cables)
