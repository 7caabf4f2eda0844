-- Lines that are of wrong form whatever their letter: one without a line feed, and one longer than the longest. Assumes nothing.
use Rattle.std.proofs.Common.{Option, None}
use Prim.Native.Nat.{ℕ, zero, suc, ◌+◌, ◌*◌, ◌<◌}
use mathlib.Core.Path.{◌≡◌, refl, sym}
use mathlib.Core.Bool.{Bool, true, false, not, cond}
use mathlib.Core.List.{List, [], ◌∷◌}
use native.Mathlib.Omega.{arith}
use lib.Dec.{eqb}
use lib.ListN.{length, get_or}
use borrow.Author.Tests.{ne_eqb}
use Rattle.lists.specs.Scans.{every}
use Rattle.lists.proofs.Scanning.{left, right, and_second}
use Rattle.sheet_lines.specs.declared.fields.Form.{Form}
use Rattle.sheet_lines.specs.declared.line.SheetLine.{SheetLine}
use Rattle.sheet_lines.specs.Fields.{formed, length_of}
use Rattle.sheet_lines.specs.Lines.{letter_t, letter_o, letter_s, letter_c, letter_b, times_form, order_form, station_form, cable_form, times_line, order_line, station_line, cable_line, breaker_line, line_of}

-- whatever the letter is
whichever : (w : Option SheetLine) (a b c d e : Bool) → cond a w (cond b w (cond c w (cond d w (cond e w w)))) ≡ w
whichever w true b c d e = refl
whichever w false true c d e = refl
whichever w false false true d e = refl
whichever w false false false true e = refl
whichever w false false false false true = refl
whichever w false false false false false = refl

-- no line feed among these bytes
abbrev pub feedless : List ℕ → Bool
feedless bs = every (λ b. not (eqb b 10)) bs

module _ (line : List ℕ) where
  -- C and B lines have one form
  wrong_by : formed line times_form ≡ false → formed line order_form ≡ false → formed line station_form ≡ false → formed line cable_form ≡ false → line_of line ≡ None
  unfolding line_of times_line order_line station_line cable_line breaker_line
  wrong_by t o s c =
      rw (t, o, s, c)
      (whichever None (eqb (get_or line 0 0) letter_t) (eqb (get_or line 0 0) letter_o) (eqb (get_or line 0 0) letter_s) (eqb (get_or line 0 0) letter_c) (eqb (get_or line 0 0) letter_b))

  -- a line of another length
  not_long : (f : Form) → (length line ≡ length_of (f.wholes + f.reals) → ⊥) → formed line f ≡ false
  unfolding formed
  not_long f h = rw (ne_eqb (length line) (length_of (f.wholes + f.reals)) h)

  pub too_long : 134 < length line → line_of line ≡ None
  too_long h =
      wrong_by
      (not_long times_form (λ e. omega arith))
      (not_long order_form (λ e. omega arith))
      (not_long station_form (λ e. omega arith))
      (not_long cable_form (λ e. omega arith))

not_feed : (b : ℕ) → not (eqb b 10) ≡ true → eqb b 10 ≡ false
not_feed b h = go (eqb b 10) h
  where
    go : (t : Bool) → not t ≡ true → t ≡ false
    go true h = sym h
    go false h = refl

no_feed_at : (bs : List ℕ) (k : ℕ) → feedless bs ≡ true → eqb (get_or bs k 0) 10 ≡ false
no_feed_at [] k h = refl
no_feed_at (b ∷ bs) zero h = not_feed b (left (not (eqb b 10)) (feedless bs) h)
no_feed_at (b ∷ bs) (suc k) h = no_feed_at bs k (right (not (eqb b 10)) (feedless bs) h)

no_feed : (line : List ℕ) (f : Form) → feedless line ≡ true → formed line f ≡ false
unfolding formed
no_feed line f h =
    rw (no_feed_at line (1 + 12 * (f.wholes + f.reals)) h, and_second (eqb (length line) (length_of (f.wholes + f.reals))) false refl)

pub unended : (line : List ℕ) → feedless line ≡ true → line_of line ≡ None
unended line h = wrong_by line (no_feed line times_form h) (no_feed line order_form h) (no_feed line station_form h) (no_feed line cable_form h)
