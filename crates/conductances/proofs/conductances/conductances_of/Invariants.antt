-- `conductances_of` meets its contract. Assumes nothing.
use Rattle.conductances.specs.Conductances.{matrix}
use lib.ListN.{take}
use mathlib.Core.Path.{◌≡◌}
use Rattle.conductances.proofs.conductances.conductances_of.Given as goal

abbrev pub invariant-loop-c : goal.invariant-loop-c
invariant-loop-c l = l.m ≡ matrix l.n.value (take l.c-index l.cables)
