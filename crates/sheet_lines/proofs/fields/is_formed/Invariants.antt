use mathlib.Core.Path.{◌≡◌}
use mathlib.Core.Bool.{false, not}
use Prim.Native.Nat.{◌+◌}
use Rattle.lists.specs.Scans.{some}
use Rattle.sheet_lines.specs.Fields.{is_whole, is_real}
use Rattle.sheet_lines.proofs.fields.is_formed.Given as goal

abbrev pub invariant-loop-k : goal.invariant-loop-k
invariant-loop-k l = some l.k (λ i. not (is_whole l.line (l.form.first_whole + i))) ≡ false

abbrev pub invariant-loop-j : goal.invariant-loop-j
invariant-loop-j l = some l.j (λ i. not (is_real l.line (l.form.first_real + i))) ≡ false
