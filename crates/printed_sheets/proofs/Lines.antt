-- A printed line: its fields, its form, and that it ends where it ends. Assumes nothing.
use Prim.Native.Nat.{ℕ, zero, suc, ◌+◌, ◌*◌, ◌<◌, ◌≤◌}
use mathlib.Core.Path.{◌≡◌, refl, sym, ◌∙◌, ap}
use mathlib.Core.Logic.{◌⊎◌, inl, inr}
use mathlib.Core.Bool.{Bool, true, false, not, ◌&&◌, ◌||◌, cond, true≢false}
use mathlib.Core.List.{List, [], ◌∷◌, ◌++◌, append_assoc}
use native.Mathlib.Omega.{arith}
use lib.Dec.{eqb, ltb}
use lib.ListN.{length, take, drop, get_or, replicate, length-append}
use lib.Seq.{take_at, drop-append-add, get_or-append_seam}
use borrow.Author.Tests.{eq-eqb, ne_eqb, eqb-true, ltb-true, not-true, not-false}
use Rattle.lists.specs.Scans.{every, some, each}
use Rattle.lists.proofs.Scanning.{left, right, both, every_of}
use Rattle.std.specs.Prelude.{Some, None, is_some, unwrap_or}
use Rattle.float64.specs.Constants.{nought}
use Rattle.field_columns.specs.Fields.{is_digit, some_digits, whole_of, real_of, as_whole, value_of}
use Rattle.printed_numbers.specs.Printed.{printed_decimal}
use Rattle.column_claims.specs.Claims.{Plain, Pointed}
use Rattle.field_columns.specs.declared.fields.Decimal.{Decimal}
use Rattle.field_columns.proofs.Digit.{digit_at_least}
use Rattle.column_claims.proofs.RoundTrip.{form, decimal_back, real_back, length_printed}
use Rattle.sheet_lines.specs.Fields as read
use Rattle.sheet_lines.specs.Fields.{columns_of, is_whole, is_real, length_of, formed}
use Rattle.sheet_lines.specs.declared.fields.Form.{Form}
use Rattle.sheet_lines.proofs.WrongLines.{feedless}
use Rattle.whole_sheets.specs.Sheets.{lines_of, before}
use Rattle.printed_sheets.specs.Printing.{fields, printed_line, whole}
use Rattle.printed_sheets.specs.Claims.{Fits, All}

neither : (a b : Bool) → (a || b) ≡ false → (a ≡ false) × (b ≡ false)
neither true b h = absurd (true≢false h)
neither false b h = (refl, h)

-- ---- no line feed stands in a field

feedless_append : (a b : List ℕ) → feedless a ≡ true → feedless b ≡ true → feedless (a ++ b) ≡ true
feedless_append [] b p q = q
feedless_append (x ∷ a) b p q = both (not (eqb x 10)) (feedless (a ++ b)) (left (not (eqb x 10)) (feedless a) p) (feedless_append a b (right (not (eqb x 10)) (feedless a) p) q)

feedless_spaces : (k : ℕ) → feedless (replicate k 32) ≡ true
feedless_spaces zero = refl
feedless_spaces (suc k) = feedless_spaces k

digit_not_feed : (b : ℕ) → is_digit b ≡ true → not (eqb b 10) ≡ true
digit_not_feed b e = rw (ne_eqb b 10 (λ q. no (digit_at_least b e) q))
  where
    no : 48 ≤ b → b ≡ 10 → ⊥
    no h q = omega arith

feedless_digits : (w : List ℕ) → some_digits w ≡ true → feedless w ≡ true
feedless_digits w e = every_of is_digit (λ b. not (eqb b 10)) digit_not_feed w (right (ltb 0 (length w)) (every is_digit w) e)

pieces_feedless : (cs : List ℕ) (d : Decimal) → Plain cs d ⊎ Pointed cs d → feedless cs ≡ true
pieces_feedless cs d (inl p) = rw p.made_of (feedless_append (replicate p.spaces 32) p.whole (feedless_spaces p.spaces) (feedless_digits p.whole p.whole_digits))
pieces_feedless cs d (inr p) =
    rw p.made_of
    (feedless_append (replicate p.spaces 32) (p.whole ++ (46 ∷ p.fraction)) (feedless_spaces p.spaces)
    (feedless_append p.whole (46 ∷ p.fraction) (feedless_digits p.whole p.whole_digits) (feedless_digits p.fraction p.fraction_digits)))

field_feedless : (d : Decimal) → Fits d → feedless (printed_decimal d.digits d.places) ≡ true
field_feedless d f =
    pieces_feedless (printed_decimal d.digits d.places) d
    ((form (printed_decimal d.digits d.places) d).0 (decimal_back d.digits d.places f.places_most f.digits_held)).1

fields_feedless : (ds : List Decimal) → All Fits ds → feedless (fields ds) ≡ true
fields_feedless [] h = refl
fields_feedless (d ∷ ds) h = feedless_append (printed_decimal d.digits d.places) (fields ds) (field_feedless d h.0) (fields_feedless ds h.1)

-- ---- a line of a text ends at its line feed

first_line : (l rest : List ℕ) → feedless l ≡ true → lines_of (l ++ (10 ∷ rest)) ≡ (l ++ (10 ∷ [])) ∷ lines_of rest
first_line [] rest h = refl
first_line (b ∷ l) rest h =
    ap (λ t. cond t ((b ∷ []) ∷ lines_of (l ++ (10 ∷ rest))) (before b (lines_of (l ++ (10 ∷ rest))))) (not-true (eqb b 10) (left (not (eqb b 10)) (feedless l) h))
    ∙ ap (before b) (first_line l rest (right (not (eqb b 10)) (feedless l) h))

pub line_ends : (letter : ℕ) (ds : List Decimal) (rest : List ℕ) → eqb letter 10 ≡ false → All Fits ds → lines_of (printed_line letter ds ++ rest) ≡ printed_line letter ds ∷ lines_of rest
unfolding printed_line
line_ends letter ds rest e h =
    ap lines_of (append_assoc (letter ∷ fields ds) (10 ∷ []) rest)
    ∙ first_line (letter ∷ fields ds) rest (both (not (eqb letter 10)) (feedless (fields ds)) (ap not e) (fields_feedless ds h))

-- ---- the columns of a field

fields-length : (ds : List Decimal) → length (fields ds) ≡ 12 * length ds
fields-length [] = refl
fields-length (d ∷ ds) = length-append (printed_decimal d.digits d.places) (fields ds) ∙ omega (arith, length_printed d.digits d.places, fields-length ds)

field_at : (ds : List Decimal) (k : ℕ) (rest : List ℕ) → k < length ds → take 12 (drop (12 * k) (fields ds ++ rest)) ≡ printed_decimal (get_or ds k (whole 0)).digits (get_or ds k (whole 0)).places
field_at [] k rest h = absurd (omega arith)
field_at (d ∷ ds) zero rest h =
    ap (take 12) (append_assoc (printed_decimal d.digits d.places) (fields ds) rest)
    ∙ take_at (printed_decimal d.digits d.places) (fields ds ++ rest) 12 (length_printed d.digits d.places)
field_at (d ∷ ds) (suc k) rest h =
    let p = printed_decimal d.digits d.places in
    let e : 12 * suc k ≡ length p + 12 * k = omega (arith, length_printed d.digits d.places) in
    ap (λ n. take 12 (drop n ((p ++ fields ds) ++ rest))) e
    ∙ ap (λ l. take 12 (drop (length p + 12 * k) l)) (append_assoc p (fields ds) rest)
    ∙ ap (take 12) (drop-append-add p (fields ds ++ rest) (12 * k))
    ∙ field_at ds k rest (omega arith)

columns_are : (letter : ℕ) (ds : List Decimal) (k : ℕ) → k < length ds → columns_of (printed_line letter ds) k ≡ printed_decimal (get_or ds k (whole 0)).digits (get_or ds k (whole 0)).places
unfolding printed_line
columns_are letter ds k h =
    let e : 1 + 12 * k ≡ suc (12 * k) = omega arith in
    ap (λ n. take 12 (drop n (letter ∷ (fields ds ++ (10 ∷ []))))) e ∙ field_at ds k (10 ∷ []) h

-- ---- what stands in a field is read

all_at : {A : Type 0} (P : A → Type 0) (z : A) (xs : List A) (k : ℕ) → All P xs → k < length xs → P (get_or xs k z)
all_at P z [] k h l = absurd (omega arith)
all_at P z (x ∷ xs) zero h l = h.0
all_at P z (x ∷ xs) (suc k) h l = all_at P z xs k h.1 (omega arith)

whole_printed : (d : Decimal) → Fits d → d.places ≡ 0 → whole_of (printed_decimal d.digits d.places) ≡ Some d.digits
unfolding whole_of
whole_printed d f e =
    ap as_whole (decimal_back d.digits d.places f.places_most f.digits_held) ∙ ap (λ t. cond t (Some d.digits) None) (eq-eqb d.places 0 e)

-- each of some numbers: where one test passes, another does
each_of : (f g : ℕ → Bool) → ((k : ℕ) → f k ≡ true → g k ≡ true) → (n : ℕ) → each n f ≡ true → each n g ≡ true
each_of f g i n h = ap not (none n (not-true (some n (λ k. not (f k))) h))
  where
    passes : (k : ℕ) → not (f k) ≡ false → not (g k) ≡ false
    passes k e = ap not (i k (not-false (f k) e))

    none : (n : ℕ) → some n (λ k. not (f k)) ≡ false → some n (λ k. not (g k)) ≡ false
    none zero e = refl
    none (suc n) e = let r = neither (some n (λ k. not (f k))) (not (f n)) e in rw (none n r.0, passes n r.1)

module _ (letter : ℕ) (ds : List Decimal) (fit : All Fits ds) where
  abbrev the : ℕ → Decimal
  the k = get_or ds k (whole 0)

  fits_at : (k : ℕ) → k < length ds → Fits (the k)
  fits_at k h = all_at Fits (whole 0) ds k fit h

  real_field : (k : ℕ) → k < length ds → real_of (columns_of (printed_line letter ds) k) ≡ Some (value_of (the k))
  real_field k h = ap real_of (columns_are letter ds k h) ∙ real_back (the k).digits (the k).places (fits_at k h).places_most (fits_at k h).digits_held

  whole_field : (k : ℕ) → k < length ds → (the k).places ≡ 0 → whole_of (columns_of (printed_line letter ds) k) ≡ Some (the k).digits
  whole_field k h e = ap whole_of (columns_are letter ds k h) ∙ whole_printed (the k) (fits_at k h) e

  -- field k has a number, and this one
  pub real_there : (k : ℕ) → k < length ds → is_real (printed_line letter ds) k ≡ true
  real_there k h = ap is_some (real_field k h)

  pub real_read : (k : ℕ) → k < length ds → read.real (printed_line letter ds) k ≡ value_of (the k)
  real_read k h = ap (λ x. unwrap_or x nought) (real_field k h)

  pub whole_there : (k : ℕ) → k < length ds → (the k).places ≡ 0 → is_whole (printed_line letter ds) k ≡ true
  whole_there k h e = ap is_some (whole_field k h e)

  pub whole-read : (k : ℕ) → k < length ds → (the k).places ≡ 0 → read.whole (printed_line letter ds) k ≡ (the k).digits
  whole-read k h e = ap (λ n. unwrap_or n 0) (whole_field k h e)

  -- ---- the form

  line-length : length (printed_line letter ds) ≡ length_of (length ds)
  unfolding printed_line
  line-length = length-append (letter ∷ fields ds) (10 ∷ []) ∙ omega (arith, fields-length ds)

  feed_last : get_or (printed_line letter ds) (1 + 12 * length ds) 0 ≡ 10
  unfolding printed_line
  feed_last =
      let e : 1 + 12 * length ds ≡ length (letter ∷ fields ds) = omega (arith, fields-length ds) in
      ap (λ n. get_or ((letter ∷ fields ds) ++ (10 ∷ [])) n 0) e ∙ get_or-append_seam (letter ∷ fields ds) 10 [] 0

  -- the fields that a form has as whole numbers are printed without places
  pub line-formed : (f : Form) → length ds ≡ f.wholes + f.reals
      → each f.wholes (λ k. ltb (f.first_whole + k) (length ds) && eqb (the (f.first_whole + k)).places 0) ≡ true
      → each f.reals (λ k. ltb (f.first_real + k) (length ds)) ≡ true
      → formed (printed_line letter ds) f ≡ true
  unfolding formed
  line-formed f l w r =
      let n = f.wholes + f.reals in
      let line = printed_line letter ds in
      let a : eqb (length line) (length_of n) ≡ true = eq-eqb (length line) (length_of n) (line-length ∙ ap length_of l) in
      let b : eqb (get_or line (1 + 12 * n) 0) 10 ≡ true = eq-eqb (get_or line (1 + 12 * n) 0) 10 (ap (λ m. get_or line (1 + 12 * m) 0) (sym l) ∙ feed_last) in
      let c : each f.wholes (λ k. is_whole line (f.first_whole + k)) ≡ true = each_of (λ k. ltb (f.first_whole + k) (length ds) && eqb (the (f.first_whole + k)).places 0) (λ k. is_whole line (f.first_whole + k)) wholes_there f.wholes w in
      let d : each f.reals (λ k. is_real line (f.first_real + k)) ≡ true = each_of (λ k. ltb (f.first_real + k) (length ds)) (λ k. is_real line (f.first_real + k)) reals_there f.reals r in
      rw (a, b, c, d)
    where
      wholes_there : (k : ℕ) → (ltb (f.first_whole + k) (length ds) && eqb (the (f.first_whole + k)).places 0) ≡ true → is_whole (printed_line letter ds) (f.first_whole + k) ≡ true
      wholes_there k h =
          let i = f.first_whole + k in
          whole_there i (ltb-true i (length ds) (left (ltb i (length ds)) (eqb (the i).places 0) h)) (eqb-true (the i).places 0 (right (ltb i (length ds)) (eqb (the i).places 0) h))

      reals_there : (k : ℕ) → ltb (f.first_real + k) (length ds) ≡ true → is_real (printed_line letter ds) (f.first_real + k) ≡ true
      reals_there k h = real_there (f.first_real + k) (ltb-true (f.first_real + k) (length ds) h)

pub letter_is : (letter : ℕ) (ds : List Decimal) → get_or (printed_line letter ds) 0 0 ≡ letter
unfolding printed_line
letter_is letter ds = refl
