-- `nearest_root` meets its contract. Assumes nothing.
use Prim.Native.Nat.{◌*◌, ◌^◌}
use native.Mathlib.Omega.{arith}
use Rattle.square_root.proofs.RootNumbers.{sq_lt, root_ge, nearest_up, nearest_down}
use Rattle.square_root.proofs.root.nearest_root.Goals as goal

pub returns-then-s : goal.returns-then-s
returns-then-s c =
    let e = c.floor_root-s.ensures in
    let lo = root_ge c.floor_root-s.result.root (c.args.m * 2 ^ 52) (omega arith) (omega (arith, e.split, e.small)) in
    let hi = sq_lt c.floor_root-s.result.root (omega arith) in
    (nearest_up _ _ _ e.split e.small c.if-s.true, (omega arith, omega arith))

pub returns-else-s : goal.returns-else-s
returns-else-s c =
    let e = c.floor_root-s.ensures in
    let lo = root_ge c.floor_root-s.result.root (c.args.m * 2 ^ 52) (omega arith) (omega (arith, e.split, e.small)) in
    let hi = sq_lt c.floor_root-s.result.root (omega arith) in
    (nearest_down _ _ _ (omega arith) e.split c.if-s.false, (omega arith, omega arith))
