-- Reading 12 columns one by one answers what `field_of` says of them. Assumes nothing.
use Prim.Native.Nat.{ℕ, suc, ◌+◌, ◌*◌, ◌-◌, ◌<◌}
use mathlib.Core.Path.{◌≡◌, refl, sym, ◌∙◌, ap}
use mathlib.Core.Bool.{Bool, true, false, ◌&&◌, cond}
use mathlib.Core.List.{List, [], ◌∷◌, ◌++◌, foldl, foldl-append}
use native.Mathlib.Omega.{arith}
use native.Mathlib.Nat.{add-zero, zero-add, add_assoc}
use native.Mathlib.Numerals.{one-add}
use lib.Dec.{eqb, leb, ltb}
use lib.ListN.{length, take, drop, take-append-drop, get_or}
use Rattle.std.specs.Prelude.{Option, Some, None}
use borrow.Author.Tests.{lt-ltb, eqb-true, eq-eqb}
use Rattle.lists.specs.Scans.{every}
use Rattle.lists.proofs.Folds.{fold_more}
use Rattle.field_columns.specs.Fields.{is_digit, after_spaces, Parts, no_point, at_point, before, split, number_from, decimal_of, field_of}
use Rattle.field_columns.specs.Scanning.{scan_of, answer_of}
use Rattle.field_columns.specs.declared.fields.Decimal.{Decimal}
use Rattle.field_columns.specs.declared.scan.Scan.{Scan}
use Rattle.field_columns.specs.declared.scan.Scan.TheVariants.{Spaces, Digits, Fraction}

-- no column after one that cannot stand there
bad : (cs : List ℕ) → foldl scan_of None cs ≡ None
bad [] = refl
bad (b ∷ bs) = bad bs

fraction : (n p : ℕ) (f : List ℕ) → foldl scan_of (Some (Fraction n p)) f ≡ cond (every is_digit f) (Some (Fraction (number_from n f) (p + length f))) None
fraction n p [] = rw add-zero
fraction n p (b ∷ bs) = go (is_digit b) (n * 10 + (b - 48)) (fraction (n * 10 + (b - 48)) (p + 1) bs)
  where
    go : (d : Bool) (m : ℕ) → foldl scan_of (Some (Fraction m (p + 1))) bs ≡ cond (every is_digit bs) (Some (Fraction (number_from m bs) (p + 1 + length bs))) None
        → foldl scan_of (cond d (Some (Fraction m (p + 1))) None) bs ≡ cond (d && every is_digit bs) (Some (Fraction (number_from m bs) (p + suc (length bs)))) None
    go true m e = rw (add_assoc p 1 (length bs), one-add) at e
    go false m e = bad bs

abbrev end_of : ℕ → Parts → Option Scan
end_of n (no_point w) = cond (every is_digit w) (Some (Digits (number_from n w))) None
end_of n (at_point w f) = cond (every is_digit w) (foldl scan_of (Some (Fraction (number_from n w) 0)) f) None

cond_both : {A : Type 0} (d x : Bool) (y z : A) → cond (d && x) y z ≡ cond d (cond x y z) z
cond_both true x y z = refl
cond_both false x y z = refl

end_of_before : (n b : ℕ) (sp : Parts) → end_of n (before b sp) ≡ cond (is_digit b) (end_of (n * 10 + (b - 48)) sp) None
end_of_before n b (no_point w) = cond_both (is_digit b) (every is_digit w) (Some (Digits (number_from (n * 10 + (b - 48)) w))) None
end_of_before n b (at_point w f) = cond_both (is_digit b) (every is_digit w) (foldl scan_of (Some (Fraction (number_from (n * 10 + (b - 48)) w) 0)) f) None

after_digits : (n : ℕ) (cs : List ℕ) → foldl scan_of (Some (Digits n)) cs ≡ end_of n (split cs)
after_digits n [] = refl
after_digits n (b ∷ bs) = go (eqb b 46) (is_digit b) (end_of_before n b (split bs)) (after_digits (n * 10 + (b - 48)) bs)
  where
    go : (t d : Bool) → end_of n (before b (split bs)) ≡ cond d (end_of (n * 10 + (b - 48)) (split bs)) None
        → foldl scan_of (Some (Digits (n * 10 + (b - 48)))) bs ≡ end_of (n * 10 + (b - 48)) (split bs)
        → foldl scan_of (cond t (Some (Fraction n 0)) (cond d (Some (Digits (n * 10 + (b - 48)))) None)) bs ≡ end_of n (cond t (at_point [] bs) (before b (split bs)))
    go true d e h = refl
    go false true e h = h ∙ sym e
    go false false e h = bad bs ∙ sym e

pub number_append : (n : ℕ) (w f : List ℕ) → number_from n (w ++ f) ≡ number_from (number_from n w) f
number_append n [] f = refl
number_append n (b ∷ bs) f = number_append (n * 10 + (b - 48)) bs f

abbrev decimal : ℕ → ℕ → Option Decimal
decimal n p = Some (record { digits = n; places = p })

answered-whole : (d : Bool) (n : ℕ) → answer_of (cond d (Some (Digits n)) None) ≡ cond d (decimal n 0) None
answered-whole true n = refl
answered-whole false n = refl

answered : (d e : Bool) (n p : ℕ) → answer_of (cond d (cond e (Some (Fraction n p)) None) None) ≡ cond (d && ((ltb 0 p && e) && leb p 6)) (decimal n p) None
answered false e n p = refl
answered true true n p = go (ltb 0 p)
  where
    go : (t : Bool) → cond (t && leb p 6) (decimal n p) None ≡ cond ((t && true) && leb p 6) (decimal n p) None
    go true = refl
    go false = refl
answered true false n p = go (ltb 0 p)
  where
    go : (t : Bool) → None ≡ cond ((t && false) && leb p 6) (decimal n p) None
    go true = refl
    go false = refl

-- after the first digit
judged : (b : ℕ) (sp : Parts) → is_digit b ≡ true → answer_of (end_of (b - 48) sp) ≡ decimal_of (before b sp)
judged b (no_point w) e = simp (e, lt-ltb 0 (suc (length w)) (omega arith), zero-add) (answered-whole (every is_digit w) (number_from (b - 48) w))
judged b (at_point w f) e =
    simp (e, lt-ltb 0 (suc (length w)) (omega arith), zero-add, fraction, number_append)
    (answered (every is_digit w) (every is_digit f) (number_from (number_from (b - 48) w) f) (length f))

refused : (b : ℕ) (sp : Parts) → is_digit b ≡ false → None ≡ decimal_of (before b sp)
refused b (no_point w) e = simp (e, lt-ltb 0 (suc (length w)) (omega arith))
refused b (at_point w f) e = simp (e, lt-ltb 0 (suc (length w)) (omega arith))

-- from the first byte that is no space
begun : (b : ℕ) (bs : List ℕ) → answer_of (foldl scan_of (cond (is_digit b) (Some (Digits (b - 48))) None) bs) ≡ decimal_of (split (b ∷ bs))
begun b bs = go (eqb b 46) (is_digit b) refl refl
  where
    go : (t d : Bool) → eqb b 46 ≡ t → is_digit b ≡ d → answer_of (foldl scan_of (cond (is_digit b) (Some (Digits (b - 48))) None) bs) ≡ decimal_of (split (b ∷ bs))
    go true d e h = simp (eqb-true b 46 e, bad)
    go false true e h = simp (e, h) (ap answer_of (after_digits (b - 48) bs) ∙ judged b (split bs) h)
    go false false e h = simp (e, h, bad) (refused b (split bs) h)

pub form : (cs : List ℕ) → answer_of (foldl scan_of (Some Spaces) cs) ≡ decimal_of (split (after_spaces cs))
form [] = refl
form (b ∷ bs) = go (eqb b 32) (form bs)
  where
    go : (t : Bool) → answer_of (foldl scan_of (Some Spaces) bs) ≡ decimal_of (split (after_spaces bs))
        → answer_of (foldl scan_of (cond t (Some Spaces) (cond (is_digit b) (Some (Digits (b - 48))) None)) bs) ≡ decimal_of (split (cond t (after_spaces bs) (b ∷ bs)))
    go true h = h
    go false h = begun b bs

pub shape : (cs : List ℕ) → length cs ≡ 12 → answer_of (foldl scan_of (Some Spaces) cs) ≡ field_of cs
unfolding field_of
shape cs h = form cs ∙ sym (ap (λ t. cond t (decimal_of (split (after_spaces cs))) None) (eq-eqb (length cs) 12 h))

-- a column that cannot stand there
pub stopped : (cs : List ℕ) (i : ℕ) (s : Scan) → length cs ≡ 12 → i < length cs → Some s ≡ foldl scan_of (Some Spaces) (take i cs) → scan_of (Some s) (get_or cs i 0) ≡ None → None ≡ field_of cs
stopped cs i s l h e n =
    let m : foldl scan_of (Some Spaces) (take (i + 1) cs) ≡ None = fold_more scan_of (Some Spaces) 0 cs i h ∙ ap (λ x. scan_of x (get_or cs i 0)) (sym e) ∙ n in
    let r : foldl scan_of (Some Spaces) cs ≡ None = rw (← take-append-drop (i + 1) cs, foldl-append, m) (bad (drop (i + 1) cs)) in
    ap answer_of (sym r) ∙ shape cs l
