-- After i columns a field's number is below 10 ^ i, so that no digit of a field overflows. Assumes nothing.
use Prim.Native.Nat.{ℕ, suc, ◌+◌, ◌*◌, ◌-◌, ◌^◌, ◌<◌, ◌≤◌}
use mathlib.Core.Path.{◌≡◌, refl, sym, subst}
use mathlib.Core.Bool.{Bool, true, false, cond}
use mathlib.Core.List.{List, [], ◌∷◌, foldl}
use native.Mathlib.Omega.{arith}
use native.Mathlib.Nat.{pow-suc, one-le-pow, pow-le-pow_right, add-zero, add-suc, suc-add}
use lib.Dec.{eqb}
use lib.ListN.{length}
use Rattle.std.specs.Prelude.{Option, Some, None}
use Rattle.field_columns.specs.Fields.{is_digit}
use Rattle.field_columns.specs.Scanning.{scan_of, Roomy}
use Rattle.field_columns.specs.declared.scan.Scan.{Scan}
use Rattle.field_columns.specs.declared.scan.Scan.TheVariants.{Spaces, Digits, Fraction}
use Rattle.field_columns.proofs.Digit.{digit_at_most}

abbrev pub Small : ℕ → Option Scan → Type 0
Small i (Some Spaces) = Unit {0}
Small i (Some (Digits n)) = n < 10 ^ i
Small i (Some (Fraction n p)) = (n < 10 ^ i) × (p ≤ i)
Small i None = Unit {0}

small_step : (i : ℕ) (s : Option Scan) (b : ℕ) → Small i s → Small (suc i) (scan_of s b)
small_step i (Some Spaces) b h = go (eqb b 32) (is_digit b) refl
  where
    go : (t d : Bool) → is_digit b ≡ d → Small (suc i) (cond t (Some Spaces) (cond d (Some (Digits (b - 48))) None))
    go true d e = tt
    go false true e = omega (arith, digit_at_most b e, pow-suc 10 i, one-le-pow i 10 (omega arith))
    go false false e = tt
small_step i (Some (Digits n)) b h = go (eqb b 46) (is_digit b) refl
  where
    go : (t d : Bool) → is_digit b ≡ d → Small (suc i) (cond t (Some (Fraction n 0)) (cond d (Some (Digits (n * 10 + (b - 48)))) None))
    go true d e = omega (arith, pow-suc 10 i)
    go false true e = omega (arith, digit_at_most b e, pow-suc 10 i)
    go false false e = tt
small_step i (Some (Fraction n p)) b h = go (is_digit b) refl
  where
    go : (d : Bool) → is_digit b ≡ d → Small (suc i) (cond d (Some (Fraction (n * 10 + (b - 48)) (p + 1))) None)
    go true e = omega (arith, digit_at_most b e, pow-suc 10 i)
    go false e = tt
small_step i None b h = tt

pub all_small : (i : ℕ) (s : Option Scan) (cs : List ℕ) → Small i s → Small (i + length cs) (foldl scan_of s cs)
all_small i s [] h = rw add-zero h
all_small i s (b ∷ bs) h = rw (add-suc, ← suc-add) (all_small (suc i) (scan_of s b) bs (small_step i s b h))

roomy : (i : ℕ) (s : Scan) → i ≤ 12 → Small i (Some s) → Roomy s
roomy i Spaces k h = tt
roomy i (Digits n) k h = omega (arith, pow-le-pow_right {n = 10} (omega arith) k)
roomy i (Fraction n p) k h = omega (arith, pow-le-pow_right {n = 10} (omega arith) k)

pub fold_roomy : (cs : List ℕ) (s : Scan) → length cs ≤ 12 → Some s ≡ foldl scan_of (Some Spaces) cs → Roomy s
fold_roomy cs s k e = roomy (0 + length cs) s (omega arith) (subst (Small (0 + length cs)) (sym e) (all_small 0 (Some Spaces) cs tt))
