-- A range that begins at 0 is what lies from 0 to its end. Assumes nothing.
use Prim.Native.Nat.{ℕ, ◌^◌, ◌≤◌}
use mathlib.Core.Path.{◌≡◌, sym, subst}
use mathlib.Core.Bool.{true}
use lib.Dec.{T}
use lib.IntN.{pos}
use lib.Ieee.{Float, binary64, of_int, le}
use lib.Ieee.Bits.{is_true}
use Rattle.lists.proofs.Scanning.{both, left, right}
use Rattle.float64.proofs.Range.{UpTo, from_range, to_range}
use Rattle.ranges.specs.Ranges.{ends, real_in}

module _ (k : ℕ) (K : k ≤ 2 ^ 53) (x : Float) where
  pub in_range : real_in (ends 0 k) x ≡ true → UpTo k x
  unfolding real_in
  in_range h =
      from_range k K x
      (subst T (sym (left (le (of_int binary64 (pos 0)) x) (le x (of_int binary64 (pos k))) h)) tt)
      (subst T (sym (right (le (of_int binary64 (pos 0)) x) (le x (of_int binary64 (pos k))) h)) tt)

  pub range_in : UpTo k x → real_in (ends 0 k) x ≡ true
  unfolding real_in
  range_in u =
      let t = to_range k K x u in
      both (le (of_int binary64 (pos 0)) x) (le x (of_int binary64 (pos k))) (is_true (le (of_int binary64 (pos 0)) x) t.0) (is_true (le x (of_int binary64 (pos k))) t.1)
