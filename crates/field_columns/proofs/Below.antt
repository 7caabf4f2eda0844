-- The number of a field has 12 digits at most, and 6 places at most. Assumes nothing.
use Prim.Native.Nat.{ℕ, ◌^◌, ◌<◌, ◌≤◌}
use mathlib.Core.Path.{◌≡◌, refl, ◌∙◌, subst}
use mathlib.Core.Bool.{Bool, true, false, ◌&&◌, cond}
use mathlib.Core.List.{List, foldl}
use native.Mathlib.Omega.{arith}
use native.Mathlib.Nat.{zero-add}
use lib.Dec.{ltb, leb, eqb}
use lib.ListN.{length}
use Rattle.std.specs.Prelude.{Option, Some, None}
use borrow.Author.Tests.{leb-true, eqb-true}
use Rattle.lists.proofs.Scanning.{right}
use Rattle.field_columns.specs.Fields.{field_of, decimal_of, split, after_spaces, as_whole, whole_of}
use Rattle.field_columns.specs.Scanning.{scan_of, answer_of}
use Rattle.field_columns.specs.declared.fields.Decimal.{Decimal}
use Rattle.field_columns.specs.declared.scan.Scan.{Scan}
use Rattle.field_columns.specs.declared.scan.Scan.TheVariants.{Spaces, Digits, Fraction}
use Rattle.field_columns.proofs.Limits.{Small, all_small}
use Rattle.field_columns.proofs.Shape.{shape}

-- what a field's number keeps to
pub record Limited (d : Decimal) : Type 0 where
  pub below : d.digits < 10 ^ 12
  pub at_most : d.places ≤ 6

pub number-wrong {ℓ} : {P : Type ℓ} (d : Decimal) → None ≡ Some d → P
number-wrong d e = let z : ◌≡◌ {A = ℕ} 0 1 = cc in absurd (omega arith)

pub number_same : (d e : Decimal) → Some d ≡ Some e → d ≡ e
number_same d e h = cc

limited : (d : Decimal) (s : Option Scan) → answer_of s ≡ Some d → Small 12 s → Limited d
limited d (Some Spaces) e h = number-wrong d e
limited d (Some (Digits n)) e h = subst Limited (number_same (record { digits = n; places = 0 }) d e) (record { below = h; at_most = omega arith })
limited d (Some (Fraction n p)) e h = go (ltb 0 p && leb p 6) refl e
  where
    go : (t : Bool) → (ltb 0 p && leb p 6) ≡ t → cond t (Some (record { digits = n; places = p })) None ≡ Some d → Limited d
    go true b e = subst Limited (number_same (record { digits = n; places = p }) d e) (record { below = h.0; at_most = leb-true p 6 (right (ltb 0 p) (leb p 6) b) })
    go false b e = number-wrong d e
limited d None e h = number-wrong d e

-- a field has 12 columns
pub has_12 : (cs : List ℕ) (d : Decimal) → field_of cs ≡ Some d → length cs ≡ 12
unfolding field_of
has_12 cs d e = go (eqb (length cs) 12) refl e
  where
    go : (t : Bool) → eqb (length cs) 12 ≡ t → cond t (decimal_of (split (after_spaces cs))) None ≡ Some d → length cs ≡ 12
    go true q h = eqb-true (length cs) 12 q
    go false q h = number-wrong d h

pub number_limited : (cs : List ℕ) (d : Decimal) → field_of cs ≡ Some d → Limited d
number_limited cs d e =
    let l = has_12 cs d e in
    limited d (foldl scan_of (Some Spaces) cs) (shape cs l ∙ e) (subst (λ i. Small i (foldl scan_of (Some Spaces) cs)) (zero-add (length cs) ∙ l) (all_small 0 (Some Spaces) cs tt))

-- a whole field's number is below 10 ^ 12
pub whole_below : (cs : List ℕ) (n : ℕ) → whole_of cs ≡ Some n → n < 10 ^ 12
unfolding whole_of
whole_below cs n e = go (field_of cs) refl e
  where
    no : None ≡ Some n → ⊥
    no h = let z : ◌≡◌ {A = ℕ} 0 1 = cc in absurd (omega arith)

    same : (m : ℕ) → Some m ≡ Some n → m ≡ n
    same m h = cc

    of : (d : Decimal) (t : Bool) → d.digits < 10 ^ 12 → cond t (Some d.digits) None ≡ Some n → n < 10 ^ 12
    of d true k h = subst (λ m. m < 10 ^ 12) (same d.digits h) k
    of d false k h = absurd (no h)

    go : (f : Option Decimal) → field_of cs ≡ f → as_whole f ≡ Some n → n < 10 ^ 12
    go (Some d) q h = of d (eqb d.places 0) (number_limited cs d q).below h
    go None q h = absurd (no h)
