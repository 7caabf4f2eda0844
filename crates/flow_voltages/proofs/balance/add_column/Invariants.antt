-- `add_column` meets its contract. Assumes nothing.
use Rattle.conductances.specs.Conductances.{cell}
use Rattle.float64.specs.Arithmetic.{◌⊕◌, ◌⊗◌, of}
use mathlib.Core.Path.{◌≡◌}
use Rattle.lists.proofs.Fills.{upto}
use Rattle.flow_voltages.proofs.balance.add_column.Given as goal

abbrev pub invariant-loop-i : goal.invariant-loop-i
invariant-loop-i l = l.sums ≡ upto l.i (λ k. of l.initial.sums k ⊕ cell l.m.entries l.j k ⊗ l.x) l.initial.sums
