-- `floor_root` meets its contract. Assumes nothing.
use Prim.Native.Nat.{◌*◌, ◌/◌, ◌^◌}
use Rattle.square_root.specs.RootDigits.{FloorOf}
use Rattle.square_root.proofs.root.floor_root.Given as goal

abbrev pub invariant-loop-k : goal.invariant-loop-k
invariant-loop-k l = FloorOf (l.m / 2 ^ (2 * l.k)) l.s.root l.s.rest

abbrev pub invariant-loop-turn : goal.invariant-loop-turn
invariant-loop-turn l = FloorOf (l.m * 2 ^ (2 * l._turn)) l.s.root l.s.rest
