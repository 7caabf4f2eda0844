-- The claims of specs/Claims. Assumes nothing.
use Prim.Native.Nat.{ℕ, zero, suc, ◌≤◌, ◌<◌}
use native.Mathlib.Nat.{le_refl, le_of_suc-le-suc, not-suc-le-zero}
use mathlib.Core.Path.{◌≡◌, refl, ◌∙◌}
use mathlib.Core.Bool.{true, false}
use mathlib.Core.List.{List, [], ◌∷◌}
use borrow.Author.Tests.{le-leb, leb-true}
use lib.Dec.{leb}
use lib.ListN.{length, get_or}
use lib.Ieee.{nan, le, lt, eq}
use Rattle.lists.proofs.Scanning.{and_second, passed}
use Rattle.ranges.specs.Ranges.{Ends, ends, table, row_of, as_doubles, between, real_in, whole_in}
use Rattle.ranges.specs.declared.Range.{Range}
use Rattle.ranges.specs.Claims.{RangeClaims}
use Rattle.ranges.proofs.WholeNumbers.{whole-real, whole_past, low_small, high_small, all_small}

pub nan-between : (r : Range) → between r nan ≡ false
unfolding le lt eq
nan-between r = and_second (le r.0 nan) false refl

nan_out : (e : Ends) → real_in e nan ≡ false
unfolding real_in
nan_out e = nan-between (as_doubles e)

-- within a list it does not matter what is read past it
same_row : {A : Type 0} (xs : List A) (k : ℕ) (y z : A) → k < length xs → get_or xs k y ≡ get_or xs k z
same_row [] k y z h = absurd (not-suc-le-zero h)
same_row (x ∷ xs) zero y z h = refl
same_row (x ∷ xs) (suc k) y z h = same_row xs k y z (le_of_suc-le-suc h)

-- no row has its ends the other way round
ordered : (k : ℕ) → k < 33 → (row_of k).low ≤ (row_of k).high
ordered k h = rw (same_row table k (ends 1 0) (ends 0 0) h) (leb-true _ _ (passed (λ e. leb e.low e.high) (ends 0 0) table k refl refl))

wholly : (e : Ends) (n : ℕ) → e.low ≤ n → n ≤ e.high → whole_in e n ≡ true
unfolding whole_in
wholly e n h k = rw (le-leb e.low n h, le-leb n e.high k)

pub range_claims : RangeClaims
range_claims =
    record {
      nan_outside = nan_out;
      low_inside = λ k h. whole-real (row_of k) (all_small k) (row_of k).low (low_small (row_of k) (all_small k)) ∙ wholly (row_of k) (row_of k).low (le_refl _) (ordered k h);
      high_inside = λ k h. whole-real (row_of k) (all_small k) (row_of k).high (high_small (row_of k) (all_small k)) ∙ wholly (row_of k) (row_of k).high (ordered k h) (le_refl _);
      whole = λ k. whole-real (row_of k) (all_small k);
      whole_past = λ k. whole_past (row_of k) (all_small k);
    }
