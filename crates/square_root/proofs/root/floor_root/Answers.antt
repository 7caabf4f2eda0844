-- `floor_root` meets its contract. Assumes nothing.
use native.Mathlib.Omega.{arith}
use Rattle.square_root.proofs.RootNumbers.{digit, quadrupled, short_root}
use Rattle.square_root.proofs.root.floor_root.Goals as goal

pub loop-k-preserved : goal.loop-k-preserved
loop-k-preserved c =
    let d = digit c.args.m c.loop-k.k c.loop-k-test.true in
    record { split = omega (arith, c.next_digit-s.ensures.split, d, c.loop-k.invariant.split); small = c.next_digit-s.ensures.small }

pub next_digit-s-requires-in-loop-turn : goal.next_digit-s-requires-in-loop-turn
next_digit-s-requires-in-loop-turn c =
    (short_root c.args.m c.loop-turn._turn c.loop-turn.s.root c.loop-turn.s.rest c.requires.1 c.loop-turn-test.true c.loop-turn.invariant.split, c.loop-turn.invariant.small, omega arith)

pub loop-turn-preserved : goal.loop-turn-preserved
loop-turn-preserved c =
    let d = quadrupled c.args.m c.loop-turn._turn in
    let n = c.next_digit-s-in-loop-turn.ensures in
    record { split = omega (arith, n.split, d, c.loop-turn.invariant.split); small = n.small }
