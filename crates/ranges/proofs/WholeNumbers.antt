-- Whole numbers in the ranges of 01's list: compared as doubles they compare as numbers. Assumes nothing.
use Prim.Native.Nat.{ℕ, ◌^◌, ◌≤◌, ◌<◌}
use native.Mathlib.Nat.{mul-one}
use mathlib.Core.Path.{◌≡◌, refl, sym, ◌∙◌}
use mathlib.Core.Logic.{⊎_elim}
use mathlib.Core.Bool.{Bool, true, false, ◌&&◌}
use native.Mathlib.Omega.{arith}
use borrow.Author.Tests.{ltb-true, lt-ltb, le-ltb, lt-leb}
use lib.Dec.{ltb, leb}
use lib.IntN.{pos}
use lib.Ieee.{binary64, of_int, le}
use lib.Ieee.Back.{round_whole}
use Rattle.lists.proofs.Counting.{lt_or_le}
use Rattle.lists.proofs.Scanning.{passed, left, right, and_second}
use Rattle.float64.proofs.Values.{le_values}
use Rattle.ranges.specs.Ranges.{Ends, ends, table, row_of, as_doubles, whole_between, real_in, whole_in}

-- up to 2 ^ 53 a whole number is a double, so that nothing is rounded
whole_le : (a b : ℕ) → a ≤ 2 ^ 53 → b ≤ 2 ^ 53 → le (of_int binary64 (pos a)) (of_int binary64 (pos b)) ≡ leb a b
unfolding of_int
whole_le a b A B = le_values a 1 b 1 (omega arith) (omega arith) _ _ (round_whole binary64 false a A) (round_whole binary64 false b B) ∙ simp mul-one

-- the ends are below 2 ^ 53
abbrev pub small : Ends → Bool
small e = ltb e.low (2 ^ 53) && ltb e.high (2 ^ 53)

module _ (e : Ends) (s : small e ≡ true) where
  pub low_small : e.low < 2 ^ 53
  low_small = ltb-true _ _ (left _ (ltb e.high (2 ^ 53)) s)

  pub high_small : e.high < 2 ^ 53
  high_small = ltb-true _ _ (right (ltb e.low (2 ^ 53)) _ s)

  pub whole-real : (n : ℕ) → n < 2 ^ 53 → real_in e (of_int binary64 (pos n)) ≡ whole_in e n
  unfolding real_in whole_in
  whole-real n h = let l = low_small in let u = high_small in rw (whole_le e.low n (omega arith) (omega arith), whole_le n e.high (omega arith) (omega arith))

  pub whole_past : (n : ℕ) → 2 ^ 53 ≤ n → whole_in e n ≡ false
  unfolding whole_in
  whole_past n h = let u = high_small in and_second (leb e.low n) (leb n e.high) (lt-leb n e.high (omega arith))

  -- what the check of a whole number comes to
  pub whole_is : (n : ℕ) → whole_between (as_doubles e) n ≡ whole_in e n
  unfolding whole_between real_in
  whole_is n = ⊎_elim (λ h. rw (lt-ltb n (2 ^ 53) h) (whole-real n h)) (λ h. rw (le-ltb n (2 ^ 53) h) (sym (whole_past n h))) (lt_or_le n (2 ^ 53))

-- no row goes so far, the one past the table included
pub all_small : (k : ℕ) → small (row_of k) ≡ true
all_small k = passed small (ends 1 0) table k refl refl
