-- One lemma for each way through a line that is taken. Assumes nothing.
use Rattle.std.proofs.Common.{Option}
use borrow.Author.Tests.{ne_eqb}
use Prim.Native.Nat.{ℕ}
use mathlib.Core.Path.{◌≡◌}
use mathlib.Core.Bool.{true, false}
use Rattle.sheet_lines.specs.declared.line.SheetLine.{SheetLine}
use Rattle.std.proofs.Common.{Some}
use Rattle.line_order.specs.Ordered.{place_of, line_refusal, fault_number}
use Rattle.line_order.specs.declared.order.LineFault.{LineFault}
use Rattle.line_order.specs.declared.order.LineFault.TheVariants.{WrongForm, WrongOrder}
use Rattle.whole_sheets.specs.declared.answers.SheetFault.TheVariants.{Line}
use Rattle.sheet_parts.specs.Parts.{counted_on}
use Rattle.taken_lines.specs.Taken.{stopped_at, contents_with, moved_on, refused_by, with_line}
use Rattle.taken_lines.specs.declared.taken.Sheet.{Sheet}

abbrev with_fault : Sheet → LineFault → Sheet
with_fault s f =
    record { grid = s.grid; order = s.order; lines = s.lines; last = s.last; bad_station = s.bad_station; bad_cable = s.bad_cable; bad_breaker = s.bad_breaker; fault = Some (Line f) }

module _ (s : Sheet) (l : Option SheetLine) where
  pub stopped_way : stopped_at s ≡ true → s ≡ with_line s l
  unfolding with_line
  stopped_way h = rw h

  pub taken_way : stopped_at s ≡ false → (place : ℕ) → place ≡ place_of l → (r : ℕ) → r ≡ line_refusal s.lines s.last place → r ≡ 0
      → (t : Sheet) → t ≡ contents_with s l → (n : ℕ) → n ≡ counted_on s.lines → moved_on t n place ≡ with_line s l
  unfolding with_line
  taken_way h place p r q z t e n k = rw (h, ← p, ← q, z, e, k)

  pub fault_way : stopped_at s ≡ false → (place : ℕ) → place ≡ place_of l → (f : LineFault) → fault_number f ≡ line_refusal s.lines s.last place → with_fault s f ≡ with_line s l
  unfolding with_line
  fault_way h place p WrongForm q = rw (h, ← p, ← q)
  fault_way h place p WrongOrder q = rw (h, ← p, ← q)

  pub refused_way : stopped_at s ≡ false → (place : ℕ) → place ≡ place_of l → (r : ℕ) → r ≡ line_refusal s.lines s.last place → (r ≡ 0 → ⊥) → refused_by s r ≡ with_line s l
  unfolding with_line
  refused_way h place p r q z = rw (h, ← p, ← q, ne_eqb r 0 z)
