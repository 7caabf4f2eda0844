-- The passes, one by one. Assumes nothing.
use Prim.Native.Nat.{ℕ, zero, suc, ◌+◌, ◌-◌, ◌≤◌, ◌<◌}
use mathlib.Core.Path.{◌≡◌, refl, sym}
use mathlib.Core.Bool.{true, false, cond}
use mathlib.Core.List.{List}
use native.Mathlib.Omega.{arith}
use lib.Dec.{eqb}
use lib.Ieee.{Float, nan, lt}
use lib.ListN.{length, take}
use lib.Seq.{length-take-le}
use Rattle.std.proofs.lemmas.List.{get_or-take}
use Rattle.lists.proofs.Fills.{padded_same, get_d_padded}
use Rattle.float64.specs.Constants.{nought}
use Rattle.float64.specs.Arithmetic.{◌⊖◌, ◌⊗◌, of}
use Rattle.flow_voltages.specs.Balance.{current, currents, power, but_first, mismatches, largest}
use Rattle.flow_voltages.specs.Constants.{tolerance}
use Rattle.voltage_moves.specs.Moves.{moved_all}
use Rattle.flow_voltages.specs.Voltages.{largest_at, after, passes}

-- the mismatches from currents that are computed for all stations at once
pub mismatches_are : (m p : List Float) (n : ℕ) (v : List Float) → n ≤ 32 → but_first n (λ i. of p i ⊖ of v i ⊗ of (currents m n v) i) ≡ mismatches m p n v
unfolding but_first
mismatches_are m p n v l =
    padded_same 32 n (λ i. cond (eqb i 0) nought (of p i ⊖ of v i ⊗ of (currents m n v) i)) (λ i. cond (eqb i 0) nought (of p i ⊖ power m n v i)) nought
    (λ k lk. rw (get_d_padded 32 n (current m n v) nought nan k lk l))

-- the largest mismatch of the stations that there are
largest_front : (d : List Float) (n k : ℕ) → k ≤ n - 1 → largest (take n d) k ≡ largest d k
largest_front d n zero l = refl
largest_front d n (suc k) l = rw (largest_front d n k (omega arith), get_or-take n d (suc k) nan (omega arith))

pub largest_present : (d : List Float) (n : ℕ) → n ≤ length d → largest (take n d) (length (take n d) - 1) ≡ largest d (n - 1)
largest_present d n l = rw (length-take-le n d l) (largest_front d n (n - 1) (omega arith))

module _ (m : List Float) (n : ℕ) (rated p : List Float) where
  -- none left
  pub passes_out : (v : List Float) (k : ℕ) → k ≡ 50 → passes m n rated p (50 - k) k v ≡ record { v_dc_kv = v; converged = false; iterations = k }
  unfolding passes
  passes_out v k e = let z : 50 - k ≡ 0 = omega arith in rw z

  -- the pass that stops
  pub passes_hit : (v : List Float) (k : ℕ) → k < 50 → lt (largest_at m n rated p v) tolerance ≡ true
      → passes m n rated p (50 - k) k v ≡ record { v_dc_kv = v; converged = true; iterations = k + 1 }
  unfolding passes
  passes_hit v k l t = let z : 50 - k ≡ suc (50 - (k + 1)) = omega arith in rw (z, t)

  -- the pass that does not
  pub passes_on : (v : List Float) (k : ℕ) → k < 50 → lt (largest_at m n rated p v) tolerance ≡ false
      → passes m n rated p (50 - k) k v ≡ passes m n rated p (50 - (k + 1)) (k + 1) (after m n rated p v)
  unfolding passes
  passes_on v k l t = let z : 50 - k ≡ suc (50 - (k + 1)) = omega arith in rw (z, t)

  -- what the code computes in a pass: the mismatches, the largest of them, the voltages moved
  module _ (v : List Float) {d : List Float} {most : Float} (d-are : d ≡ mismatches m p n v) (most_is : most ≡ largest_at m n rated p v) where
    pub turn_hit : (k : ℕ) → k < 50 → lt most tolerance ≡ true → record { v_dc_kv = v; converged = true; iterations = k + 1 } ≡ passes m n rated p (50 - k) k v
    turn_hit k h t = sym (passes_hit v k h (rw (← most_is) t))

    pub turn_on : (k : ℕ) {w : List Float} → k < 50 → lt most tolerance ≡ false → w ≡ moved_all m n rated d v
        → passes m n rated p (50 - (k + 1)) (k + 1) w ≡ passes m n rated p (50 - k) k v
    turn_on k h t e = rw (e, d-are) (sym (passes_on v k h (rw (← most_is) t)))
