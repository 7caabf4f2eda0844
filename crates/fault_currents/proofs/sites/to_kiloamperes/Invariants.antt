-- `to_kiloamperes` meets its contract. Assumes nothing.
use mathlib.Core.Path.{◌≡◌}
use Rattle.lists.proofs.Fills.{upto}
use Rattle.float64.specs.Arithmetic.{of, ◌⊗◌, ◌⊘◌}
use Rattle.float64.specs.Constants.{kilo}
use Rattle.float64.specs.Choice.{abs_of}
use Rattle.fault_currents.proofs.sites.to_kiloamperes.Given as goal

abbrev pub invariant-loop-j : goal.invariant-loop-j
invariant-loop-j l = l.i ≡ upto l.j (λ n. abs_of (of l.initial.i n) ⊘ kilo ⊗ l.factor) l.initial.i
