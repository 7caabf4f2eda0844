-- `mismatches_at` meets its contract. Assumes nothing.
use Rattle.float64.specs.Arithmetic.{◌⊖◌, ◌⊗◌, of}
use Rattle.float64.specs.Constants.{nought}
use lib.Dec.{eqb}
use mathlib.Core.Bool.{cond}
use mathlib.Core.Path.{◌≡◌}
use Prim.Native.Nat.{◌-◌, ◌≤◌}
use Rattle.lists.specs.Tables.{blank}
use Rattle.lists.proofs.Fills.{upto}
use Rattle.flow_voltages.proofs.balance.mismatches_at.Given as goal

abbrev pub invariant-loop-i : goal.invariant-loop-i
invariant-loop-i l =
    (l.i - 1 ≤ l.m.n.value - 1) × (l.d ≡ upto l.i (λ k. cond (eqb k 0) nought (of l.wanted k ⊖ of l.v k ⊗ of l.currents k)) (blank 32 nought))
