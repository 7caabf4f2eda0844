-- `move_each` meets its contract. Assumes nothing.
use Rattle.voltage_moves.specs.Moves.{moved_to}
use mathlib.Core.Path.{◌≡◌}
use Prim.Native.Nat.{◌-◌, ◌≤◌}
use Rattle.voltage_moves.proofs.moves.move_each.Given as goal

abbrev pub invariant-loop-i : goal.invariant-loop-i
invariant-loop-i l = (l.i - 1 ≤ l.n.value - 1) × (l.v ≡ moved_to l.m l.n.value l.rated l.d l.initial.v (l.i - 1))
