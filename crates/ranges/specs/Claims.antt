-- What document 01 says of ranges in words, and what a reader expects beside the definitions. The proofs are in proofs/Claims.antt.
use Rattle.std.specs.Prelude.{◌≡◌, true, false, ℕ, ◌^◌, ◌≤◌, ◌<◌, pos}
use Rattle.std.specs.Float.{nan, binary64}
use Rattle.std.specs.Float.Ieee.{of_int}
use Rattle.ranges.specs.Ranges.{Ends, row_of, real_in, whole_in}

pub record RangeClaims : Type 0 where
  -- NaN is outside every range
  pub nan_outside : (e : Ends) → real_in e nan ≡ false
  -- ends included, in every row
  pub low_inside : (k : ℕ) → k < 33 → real_in (row_of k) (of_int binary64 (pos (row_of k).low)) ≡ true
  pub high_inside : (k : ℕ) → k < 33 → real_in (row_of k) (of_int binary64 (pos (row_of k).high)) ≡ true
  -- a whole number lies in a range where its double does; from 2 ^ 53 up it lies in none
  pub whole : (k n : ℕ) → n < 2 ^ 53 → real_in (row_of k) (of_int binary64 (pos n)) ≡ whole_in (row_of k) n
  pub whole_past : (k n : ℕ) → 2 ^ 53 ≤ n → whole_in (row_of k) n ≡ false
