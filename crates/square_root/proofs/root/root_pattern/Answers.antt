-- `root_pattern` meets its contract. Assumes nothing.
use native.Mathlib.Omega.{arith}
use mathlib.Core.Path.{refl}
use Rattle.square_root.proofs.RootNumbers.{even, odd, lift}
use Rattle.square_root.proofs.root.root_pattern.Goals as goal

pub returns-then-n-eq0 : goal.returns-then-n-eq0
returns-then-n-eq0 c =
    let e = c.nearest_root.ensures in
    record { q = c.nearest_root.result; is = refl; placed = lift _ _ _ _ _ (even _ _ c.if-n-eq0.true) (omega arith) (omega arith) e.1 e.0 }

pub returns-else-n-eq0 : goal.returns-else-n-eq0
returns-else-n-eq0 c =
    let e = c.nearest_root-else-n-eq0.ensures in
    record { q = c.nearest_root-else-n-eq0.result; is = refl; placed = lift _ _ _ _ _ (odd _ _ c.if-n-eq0.false) (omega arith) (omega arith) e.1 e.0 }
