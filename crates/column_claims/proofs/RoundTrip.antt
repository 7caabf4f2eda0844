-- The form of a field, piece by piece, and a printed number read back. Assumes nothing.
use Prim.Native.Nat.{ℕ, zero, suc, ◌+◌, ◌-◌, ◌*◌, ◌/◌, ◌^◌, ◌<◌, ◌≤◌}
use mathlib.Core.Path.{◌≡◌, refl, sym, ◌∙◌, ap, subst}
use mathlib.Core.Logic.{◌⊎◌, inl, inr, ◌↔◌}
use mathlib.Core.Bool.{Bool, true, false, ◌&&◌, cond}
use mathlib.Core.List.{List, [], ◌∷◌, ◌++◌, append-nil}
use native.Mathlib.Omega.{arith}
use native.Mathlib.Nat.{div-lt_iff_lt-mul, div-le_self, one-le-pow}
use lib.Pow.{pow-add}
use lib.Dec.{eqb, leb, ltb}
use lib.ListN.{length, replicate, length-append}
use Rattle.std.specs.Prelude.{Some, None}
use borrow.Author.Tests.{lt-ltb, ne_eqb, eq-eqb, eqb-true, le-leb, leb-true}
use Rattle.lists.specs.Scans.{every}
use Rattle.lists.proofs.Scanning.{both, left, right}
use Rattle.field_columns.specs.Fields.{is_digit, some_digits, after_spaces, Parts, no_point, at_point, before, split, number, number_from, decimal_of, field_of, as_whole, whole_of, value_of, as_real, real_of}
use Rattle.printed_numbers.specs.Printed.{digits_of, justified, right_justified, last_digits, decimal_text, printed_decimal}
use Rattle.column_claims.specs.Claims.{Plain, Pointed, Holds12}
use Rattle.field_columns.specs.declared.fields.Decimal.{Decimal}
use Rattle.field_columns.proofs.Digit.{digit_at_least}
use Rattle.field_columns.proofs.Shape.{number_append}
use Rattle.field_columns.proofs.Below.{has_12, number-wrong, number_same}
use Rattle.printed_numbers.proofs.Justified.{length-justified, spaces_before}
use Rattle.column_claims.proofs.Spelled.{Spells, digits_spell, some_digits_lem, few_digits, length_last, all_last, number_last}

-- ---- from the pieces to the parts

-- spaces in front are dropped
spaces : (k : ℕ) (bs : List ℕ) → after_spaces (replicate k 32 ++ bs) ≡ after_spaces bs
spaces zero bs = refl
spaces (suc k) bs = spaces k bs

-- and nothing else is, where a digit comes first
kept : (w rest : List ℕ) → some_digits w ≡ true → after_spaces (w ++ rest) ≡ w ++ rest
kept [] rest e = let z : ◌≡◌ {A = ℕ} 0 1 = cc in absurd (omega arith)
kept (b ∷ bs) rest e =
    rw (ne_eqb b 32 (λ q. no (digit_at_least b (left (is_digit b) (every is_digit bs) (right (ltb 0 (suc (length bs))) (is_digit b && every is_digit bs) e))) q))
  where
    no : 48 ≤ b → b ≡ 32 → ⊥
    no h q = omega arith

whole-kept : (w : List ℕ) → some_digits w ≡ true → after_spaces w ≡ w
whole-kept w e = subst (λ z. after_spaces z ≡ z) (append-nil w) (kept w [] e)

no_point_lem : (b : ℕ) → is_digit b ≡ true → eqb b 46 ≡ false
no_point_lem b e = ne_eqb b 46 (λ q. no (digit_at_least b e) q)
  where
    no : 48 ≤ b → b ≡ 46 → ⊥
    no h q = omega arith

pointless : (bs : List ℕ) → every is_digit bs ≡ true → split bs ≡ no_point bs
pointless [] e = refl
pointless (b ∷ bs) e = rw (no_point_lem b (left (is_digit b) (every is_digit bs) e), pointless bs (right (is_digit b) (every is_digit bs) e))

pointed : (w f : List ℕ) → every is_digit w ≡ true → split (w ++ (46 ∷ f)) ≡ at_point w f
pointed [] f e = refl
pointed (b ∷ bs) f e = rw (no_point_lem b (left (is_digit b) (every is_digit bs) e), pointed bs f (right (is_digit b) (every is_digit bs) e))

all_of : (w : List ℕ) → some_digits w ≡ true → every is_digit w ≡ true
all_of w e = right (ltb 0 (length w)) (every is_digit w) e

of_12 : (cs : List ℕ) → length cs ≡ 12 → field_of cs ≡ decimal_of (split (after_spaces cs))
unfolding field_of
of_12 cs h = ap (λ t. cond t (decimal_of (split (after_spaces cs))) None) (eq-eqb (length cs) 12 h)

pub plain_field : (k : ℕ) (w : List ℕ) → length (replicate k 32 ++ w) ≡ 12 → some_digits w ≡ true → field_of (replicate k 32 ++ w) ≡ Some (record { digits = number w; places = 0 })
plain_field k w l e =
    of_12 (replicate k 32 ++ w) l
    ∙ ap (λ bs. decimal_of (split bs)) (spaces k w ∙ whole-kept w e)
    ∙ ap decimal_of (pointless w (all_of w e))
    ∙ ap (λ t. cond t (Some (record { digits = number w; places = 0 })) None) e

pub pointed_field : (k : ℕ) (w f : List ℕ) → length (replicate k 32 ++ (w ++ (46 ∷ f))) ≡ 12 → some_digits w ≡ true → some_digits f ≡ true → length f ≤ 6
    → field_of (replicate k 32 ++ (w ++ (46 ∷ f))) ≡ Some (record { digits = number (w ++ f); places = length f })
pointed_field k w f l e g m =
    of_12 (replicate k 32 ++ (w ++ (46 ∷ f))) l
    ∙ ap (λ bs. decimal_of (split bs)) (spaces k (w ++ (46 ∷ f)) ∙ kept w (46 ∷ f) e)
    ∙ ap decimal_of (pointed w f (all_of w e))
    ∙ ap (λ t. cond t (Some (record { digits = number (w ++ f); places = length f })) None)
    (both (some_digits w) (some_digits f && leb (length f) 6) e (both (some_digits f) (leb (length f) 6) g (le-leb (length f) 6 m)))

-- ---- from the parts to the pieces
some_spaces : (cs : List ℕ) → (k : ℕ) × (cs ≡ replicate k 32 ++ after_spaces cs)
some_spaces [] = (0, refl)
some_spaces (b ∷ bs) = go (eqb b 32) refl (some_spaces bs)
  where
    go : (t : Bool) → eqb b 32 ≡ t → (k : ℕ) × (bs ≡ replicate k 32 ++ after_spaces bs) → (k : ℕ) × (b ∷ bs ≡ replicate k 32 ++ cond t (after_spaces bs) (b ∷ bs))
    go true e r = (suc r.0, λ i. eqb-true b 32 e i ∷ r.1 i)
    go false e r = (0, refl)

abbrev joined : Parts → List ℕ
joined (no_point w) = w
joined (at_point w f) = w ++ (46 ∷ f)

joined_before : (b : ℕ) (sp : Parts) → joined (before b sp) ≡ b ∷ joined sp
joined_before b (no_point w) = refl
joined_before b (at_point w f) = refl

split-joined : (cs : List ℕ) → joined (split cs) ≡ cs
split-joined [] = refl
split-joined (b ∷ bs) = go (eqb b 46) refl (split-joined bs)
  where
    go : (t : Bool) → eqb b 46 ≡ t → joined (split bs) ≡ bs → joined (cond t (at_point [] bs) (before b (split bs))) ≡ b ∷ bs
    go true e r = ap (λ z. z ∷ bs) (sym (eqb-true b 46 e))
    go false e r = joined_before b (split bs) ∙ ap (λ z. b ∷ z) r

module _ (cs : List ℕ) (d : Decimal) (k : ℕ) where
  taken_apart : (sp : Parts) → cs ≡ replicate k 32 ++ joined sp → decimal_of sp ≡ Some d → Plain cs d ⊎ Pointed cs d
  taken_apart (no_point w) e h = go (some_digits w) refl h
    where
      go : (t : Bool) → some_digits w ≡ t → cond t (Some (record { digits = number w; places = 0 })) None ≡ Some d → Plain cs d ⊎ Pointed cs d
      go true q h =
          let s = number_same (record { digits = number w; places = 0 }) d h in
          inl (record { spaces = k; whole = w; made_of = e; whole_digits = q; digits_are = sym (ap (λ (z : Decimal). z.digits) s); places_are = sym (ap (λ (z : Decimal). z.places) s) })
      go false q h = number-wrong d h
  taken_apart (at_point w f) e h = go (some_digits w && (some_digits f && leb (length f) 6)) refl h
    where
      go : (t : Bool) → (some_digits w && (some_digits f && leb (length f) 6)) ≡ t → cond t (Some (record { digits = number (w ++ f); places = length f })) None ≡ Some d → Plain cs d ⊎ Pointed cs d
      go true q h =
          let s = number_same (record { digits = number (w ++ f); places = length f }) d h in
          let r = right (some_digits w) (some_digits f && leb (length f) 6) q in
          inr
          (record {
            spaces = k;
            whole = w;
            fraction = f;
            made_of = e;
            whole_digits = left (some_digits w) (some_digits f && leb (length f) 6) q;
            fraction_digits = left (some_digits f) (leb (length f) 6) r;
            fraction_most = leb-true (length f) 6 (right (some_digits f) (leb (length f) 6) r);
            digits_are = sym (ap (λ (z : Decimal). z.digits) s);
            places_are = sym (ap (λ (z : Decimal). z.places) s);
          })
      go false q h = number-wrong d h

in_pieces : (cs : List ℕ) (d : Decimal) → field_of cs ≡ Some d → (length cs ≡ 12) × (Plain cs d ⊎ Pointed cs d)
in_pieces cs d h =
    let l = has_12 cs d h in
    let s = some_spaces cs in
    (l, taken_apart cs d s.0 (split (after_spaces cs)) (s.1 ∙ ap (λ z. replicate s.0 32 ++ z) (sym (split-joined (after_spaces cs)))) (sym (of_12 cs l) ∙ h))

of_pieces : (cs : List ℕ) (d : Decimal) → (length cs ≡ 12) × (Plain cs d ⊎ Pointed cs d) → field_of cs ≡ Some d
of_pieces cs d (l, inl p) =
    ap field_of p.made_of ∙ plain_field p.spaces p.whole (ap length (sym p.made_of) ∙ l) p.whole_digits
    ∙ λ i. Some (record { digits = sym p.digits_are i; places = sym p.places_are i })
of_pieces cs d (l, inr p) =
    ap field_of p.made_of ∙ pointed_field p.spaces p.whole p.fraction (ap length (sym p.made_of) ∙ l) p.whole_digits p.fraction_digits p.fraction_most
    ∙ λ i. Some (record { digits = sym p.digits_are i; places = sym p.places_are i })

pub form : (cs : List ℕ) (d : Decimal) → field_of cs ≡ Some d ↔ (length cs ≡ 12) × (Plain cs d ⊎ Pointed cs d)
form cs d = (in_pieces cs d, of_pieces cs d)

-- ---- a printed number
text_12 : (text : List ℕ) → length text ≤ 12 → length (replicate (12 - length text) 32 ++ text) ≡ 12
text_12 text h = ap length (sym (spaces_before 12 text h)) ∙ length-justified 12 text

whole_text : (text : List ℕ) (n : ℕ) → length text ≤ 12 → Spells text n → field_of (justified 12 text) ≡ Some (record { digits = n; places = 0 })
whole_text text n h s =
    ap field_of (spaces_before 12 text h) ∙ plain_field (12 - length text) text (text_12 text h) (some_digits_lem text n s)
    ∙ ap (λ m. Some (record { digits = m; places = 0 })) s.is

pub number_back : (n : ℕ) → n < 10 ^ 12 → field_of (right_justified 12 n) ≡ Some (record { digits = n; places = 0 })
unfolding right_justified
number_back n h = whole_text (digits_of n) n (few_digits 12 n (omega arith) h) (digits_spell n (omega arith))

-- a number in any columns that hold it: behind the spaces stand its digits
pub column_back : (width n : ℕ) → 0 < width → n < 10 ^ width → n < 2 ^ 64 → number (after_spaces (right_justified width n)) ≡ n
unfolding right_justified
column_back width n p h k =
    let s = digits_spell n (omega arith) in
    ap (λ bs. number (after_spaces bs)) (spaces_before width (digits_of n) (few_digits width n p h))
    ∙ ap number (spaces (width - length (digits_of n)) (digits_of n) ∙ whole-kept (digits_of n) (some_digits_lem (digits_of n) n s))
    ∙ s.is

pub whole_back : (n : ℕ) → n < 10 ^ 12 → whole_of (right_justified 12 n) ≡ Some n
unfolding whole_of
whole_back n h = ap as_whole (number_back n h)

pub decimal_back : (digits places : ℕ) → places ≤ 6 → Holds12 digits places → field_of (printed_decimal digits places) ≡ Some (record { digits = digits; places = places })
unfolding printed_decimal
decimal_back digits zero h k = whole_text (digits_of digits) digits (few_digits 12 digits (omega arith) k) (digits_spell digits (omega arith))
decimal_back digits (suc p) h k =
    let w = digits_of (digits / 10 ^ suc p) in
    let f = last_digits (suc p) digits in
    let e : 10 ^ (11 - suc p) * 10 ^ suc p ≡ 10 ^ 11 = sym (pow-add 10 (11 - suc p) (suc p)) ∙ ap (λ z. 10 ^ z) (rejoined (suc p) h) in
    let b : digits / 10 ^ suc p < 10 ^ (11 - suc p) = (div-lt_iff_lt-mul {k = 10 ^ suc p} (one-le-pow (suc p) 10 (omega arith))).1 (subst (λ z. digits < z) (sym e) k) in
    let s : Spells w (digits / 10 ^ suc p) = digits_spell (digits / 10 ^ suc p) (below digits (10 ^ suc p) k) in
    let lw : length w ≤ 11 - suc p = few_digits (11 - suc p) (digits / 10 ^ suc p) (omega arith) b in
    let lf : length f ≡ suc p = length_last (suc p) digits in
    let t : length (w ++ (46 ∷ f)) ≤ 12 = rw length-append (omega arith) in
    ap field_of (spaces_before 12 (w ++ (46 ∷ f)) t)
    ∙ pointed_field (12 - length (w ++ (46 ∷ f))) w f (text_12 (w ++ (46 ∷ f)) t) (some_digits_lem w (digits / 10 ^ suc p) s) (both (ltb 0 (length f)) (every is_digit f) (lt-ltb 0 (length f) (omega arith)) (all_last (suc p) digits)) (omega arith)
    ∙ λ i. Some (record { digits = (number_append 0 w f ∙ ap (λ m. number_from m f) s.is ∙ number_last (suc p) digits) i; places = lf i })
  where
    rejoined : (p : ℕ) → p ≤ 6 → 11 - p + p ≡ 11
    rejoined p h = omega arith

    below : (n u : ℕ) → n < 10 ^ 11 → n / u < 10 ^ 20
    below n u h = omega (arith, div-le_self n u)

pub real_back : (digits places : ℕ) → places ≤ 6 → Holds12 digits places → real_of (printed_decimal digits places) ≡ Some (value_of (record { digits = digits; places = places }))
unfolding real_of
real_back digits places h k = ap as_real (decimal_back digits places h k)

pub length_printed : (digits places : ℕ) → length (printed_decimal digits places) ≡ 12
unfolding printed_decimal
length_printed digits places = length-justified 12 (decimal_text digits places)
