-- How a sheet is judged and a reading is answered. Assumes nothing.
use Prim.Native.Nat.{ℕ, ◌<◌, ◌≤◌}
use mathlib.Core.Path.{◌≡◌, refl, sym}
use mathlib.Core.Bool.{Bool, true, false, ◌&&◌, cond}
use native.Mathlib.Omega.{arith}
use lib.Dec.{eqb, ltb}
use Rattle.float64.specs.Constants.{nought}
use Rattle.grid.specs.Simulator.{new_simulator}
use Rattle.rules.specs.Studies.{rule_number, number_of}
use Rattle.rules.proofs.Outcomes.{not_nought}
use Rattle.rules.specs.declared.studies.Refusal as rules
use Rattle.grid.specs.declared.parts.SweepOrder.{SweepOrder}
use Rattle.grid.specs.declared.simulator.DcSwitchingSimulator.{DcSwitchingSimulator}
use Rattle.sheet_bytes.specs.Bytes.{ended_of}
use Rattle.sheet_bytes.specs.declared.bytes.Reading.{Reading}
use borrow.Author.Tests.{ne_eqb, lt-ltb, le-ltb}
use Rattle.std.proofs.Common.{Some, None, Err}
use Rattle.whole_sheets.specs.Sheets.{Refusal, SheetAnswer, refused, none, fault_number, no_order, answered, contents_of}
use Rattle.whole_sheets.specs.declared.answers.SheetFault.{SheetFault}
use Rattle.whole_sheets.proofs.Printed.{never_0}
use Rattle.sheet_parts.specs.Parts.{counted_on}
use Rattle.sheet_answers.specs.Answers.{rule_refusal, rule_line, refusal_in, answer_of}
use Rattle.taken_lines.specs.declared.taken.Sheet.{Sheet}

module _ (s : Sheet) (n : ℕ) where
  pub line_refused : (f : SheetFault) → s.fault ≡ Some f → n ≡ counted_on s.lines → refused (fault_number f) n ≡ refusal_in s
  unfolding refusal_in
  line_refused f h e = rw (h, ne_eqb (fault_number f) 0 (never_0 f), e)

  pub line_missing : s.fault ≡ None → s.lines < 2 → n ≡ counted_on s.lines → refused 13 n ≡ refusal_in s
  unfolding refusal_in
  line_missing h k e = rw (h, lt-ltb s.lines 2 k, e)

  pub by_rule : s.fault ≡ None → 2 ≤ s.lines → n ≡ rule_refusal s → (m : ℕ) → m ≡ rule_line s n → refused n m ≡ refusal_in s
  unfolding refusal_in
  by_rule h k e m p = rw (h, le-ltb s.lines 2 k, ← h, p, e)

pub accepted_way : (s : Sheet) → s.fault ≡ None → 2 ≤ s.lines → 0 ≡ rule_refusal s → none ≡ refusal_in s
unfolding refusal_in rule_line
accepted_way s h k e = rw (h, le-ltb s.lines 2 k, ← h, ← e)

same_refusal : (f : Refusal) (g : DcSwitchingSimulator) (o : SweepOrder) → (answered f g o).refusal ≡ f
unfolding answered
same_refusal f g o = either (eqb f.number 0)
  where
    given : SheetAnswer
    given = record { refusal = f; grid = g; order = o }

    blank : SheetAnswer
    blank = record { refusal = f; grid = new_simulator nought nought; order = no_order }

    either : (b : Bool) → (cond b given blank).refusal ≡ f
    either true = refl
    either false = refl

-- what is printed of an answer is the refusal, and an answer without one has the sheet's grid and order
module _ (r : Reading) (s : Sheet) (e : s ≡ ended_of r) where
  pub refusal_way : (f : Refusal) → f ≡ refusal_in s → f ≡ (answer_of r).refusal
  unfolding answer_of
  refusal_way f p = rw (← e, ← p) (sym (same_refusal f s.grid s.order))

  pub contents_way : none ≡ refusal_in s → record { grid = s.grid; order = s.order } ≡ contents_of (answer_of r)
  unfolding answer_of answered
  contents_way p = rw (← e, ← p)

-- ---- a rule has a number from 1 on

module _ (r : rules.Refusal) where
  not_0 : rule_number r ≡ 0 → ⊥
  unfolding number_of
  not_0 e = not_nought {A = ℕ} (Err r) refl e

  pub no_rule : false ≡ eqb 0 (rule_number r)
  no_rule = sym (ne_eqb 0 (rule_number r) (λ e. not_0 (sym e)))

  pub some_rule : (b : Bool) → b ≡ ltb 0 (rule_number r) && b
  some_rule b = let n : 0 < rule_number r = above (rule_number r) not_0 in rw (lt-ltb 0 (rule_number r) n)
    where
      above : (n : ℕ) → (n ≡ 0 → ⊥) → 0 < n
      above n h = omega arith
