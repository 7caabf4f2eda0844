-- A line of right form says what its fields hold, whatever stands for them; one with a field of another kind is of wrong form. Assumes nothing.
use Rattle.std.proofs.Common.{Some, None}
use Prim.Native.Nat.{ℕ, ◌+◌, ◌*◌, ◌<◌}
use mathlib.Core.Path.{◌≡◌, refl, sym, ap}
use mathlib.Core.Bool.{Bool, true, false, not, ◌&&◌, ◌||◌}
use mathlib.Core.List.{List, [], ◌∷◌}
use native.Mathlib.Omega.{arith}
use lib.Dec.{eqb, leb}
use lib.ListN.{length, get_or}
use lib.Ieee.{Float, eq}
use Rattle.lists.specs.Scans.{each}
use Rattle.lists.proofs.Scanning.{and_first, and_second, some_found}
use Rattle.float64.specs.Constants.{nought}
use Rattle.grid.specs.declared.parts.ConverterStation.{ConverterStation}
use Rattle.grid.specs.declared.parts.DcBreaker.{DcBreaker}
use Rattle.sheet_lines.specs.declared.fields.Form.{Form}
use Rattle.sheet_lines.specs.declared.line.SheetLine.TheVariants.{Station, Breaker}
use Rattle.sheet_lines.specs.Fields.{formed, length_of, is_whole, is_real, whole, real}
use Rattle.sheet_lines.specs.Lines.{station_form, breaker_form, station_line, breaker_line, station_in, breaker_in, line_of}

-- an empty line says nothing
pub empty : (line : List ℕ) → length line ≡ 0 → None ≡ line_of line
unfolding line_of
empty [] h = refl
empty (b ∷ line) h = absurd (omega arith)

module _ (line : List ℕ) where
  pub station_right : formed line station_form ≡ true → (s : ConverterStation) → s ≡ station_in line → (t n : ℕ) → t ≡ whole line 0 → n ≡ whole line 1 → (Some (Station s (leb t 3 && (eqb n 0 || eqb t 2)))) ≡ station_line line
  unfolding station_line
  station_right e s p t n q r = rw (e, p, q, r)

  pub breaker_right : formed line breaker_form ≡ true → (b : DcBreaker) → b ≡ breaker_in line → (kind : ℕ) (second : Float) → kind ≡ whole line 2 → second ≡ real line 4
      → (Some (Breaker b (leb kind 2 && (eq second nought || not (eqb kind 0))))) ≡ breaker_line line
  unfolding breaker_line
  breaker_right e b p kind second q r = rw (e, p, q, r)

-- ---- a field of another kind

-- what fails of one of them does not hold of each
each_fails : (f : ℕ → Bool) (n k : ℕ) → k < n → f k ≡ false → each n f ≡ false
each_fails f n k h e = ap not (some_found (λ i. not (f i)) n k h (ap not e))

module _ (line : List ℕ) (form : Form) where
  fits : Bool
  fits = eqb (length line) (length_of (form.wholes + form.reals))

  ended : Bool
  ended = eqb (get_or line (1 + 12 * (form.wholes + form.reals)) 0) 10

  wholes : Bool
  wholes = each form.wholes (λ i. is_whole line (form.first_whole + i))

  reals : Bool
  reals = each form.reals (λ i. is_real line (form.first_real + i))

  pub whole_wrong : (k : ℕ) → k < form.wholes → is_whole line (form.first_whole + k) ≡ false → false ≡ formed line form
  unfolding formed fits ended wholes reals
  whole_wrong k h e = sym (and_first (fits && ended && wholes) reals (and_second (fits && ended) wholes (each_fails (λ i. is_whole line (form.first_whole + i)) form.wholes k h e)))

  pub real_wrong : (k : ℕ) → k < form.reals → is_real line (form.first_real + k) ≡ false → false ≡ formed line form
  unfolding formed fits ended wholes reals
  real_wrong k h e = sym (and_second (fits && ended && wholes) reals (each_fails (λ i. is_real line (form.first_real + i)) form.reals k h e))
