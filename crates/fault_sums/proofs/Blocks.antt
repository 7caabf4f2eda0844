-- The lanes of a block, folded in order, are steps; and steps block by block are all of them. Assumes nothing.
use Prim.Native.Nat.{ℕ, zero, suc, ◌+◌, ◌-◌, ◌≤◌, ◌<◌, min}
use native.Mathlib.Numerals.{add-one}
use native.Mathlib.Omega.{arith}
use mathlib.Core.Path.{◌≡◌, refl, sym, ap, ◌∙◌}
use mathlib.Core.List.{List}
use lib.Ieee.{Float, nan}
use Rattle.lists.specs.Tables.{tab}
use Rattle.lists.proofs.Fills.{get_d_padded}
use Rattle.float64.specs.Constants.{nought}
use Rattle.float64.specs.Arithmetic.{◌⊕◌, ◌⊗◌, of}
use Rattle.run_start.specs.Start.{time_at}
use Rattle.fault_circuit.specs.declared.circuit.FaultCircuit.{FaultCircuit}
use Rattle.fault_current.specs.Current.{current_by, current_of}
use Rattle.fault_plan.specs.Fault.{dissipated}
use Rattle.fault_currents.specs.Sites.{site_current}
use Rattle.lanes.proofs.Lanes.{lane_of}
use Rattle.fault_sums.specs.declared.steps.Sums.{Sums}
use Rattle.fault_sums.specs.Sums.{sum_step, sums_from, sums_of, with_factor}
use Rattle.fault_sums.specs.Blocks.{added, block_times, lanes_from}

-- ---- the loop over the lanes: folding what is left completes the fold of all

module _ (f h : ℕ → Float) (j n : ℕ) (s : Sums) where
  pub lanes_more : j < n → lanes_from f h (j + 1) (added (f j) (h j) s) (n - (j + 1)) ≡ lanes_from f h j s (n - j)
  unfolding lanes_from
  lanes_more l = let e : n - j ≡ suc (n - (j + 1)) = omega arith in rw (e, add-one)

  pub lanes_done : n ≤ j → lanes_from f h j s (n - j) ≡ s
  unfolding lanes_from
  lanes_done l = let e : n - j ≡ 0 = omega arith in rw e

-- ---- lanes as steps

module _ (heat : Float → Float) where
  -- lanes with the heat of their currents
  pub lanes_are : (f h : ℕ → Float) (j n : ℕ) (s : Sums) → ((k : ℕ) → k < j + n → h k ≡ heat (f k)) → lanes_from f h j s n ≡ sums_from f heat j s n
  unfolding lanes_from sums_from
  lanes_are f h j zero s a = refl
  lanes_are f h j (suc n) s a = rw (a j (omega arith)) (lanes_are f h (suc j) n (sum_step heat (f j) s) (λ k l. a k (omega arith)))

  -- the same currents d numbers on
  pub sums_shifted
      : (f g : ℕ → Float) (d j k n : ℕ) (s : Sums) → k ≡ d + j → ((i m : ℕ) → i < j + n → m ≡ d + i → f i ≡ g m)
      → sums_from f heat j s n ≡ sums_from g heat k s n
  unfolding sums_from
  sums_shifted f g d j k zero s e h = refl
  sums_shifted f g d j k (suc n) s e h =
      let q : f j ≡ g k = h j k (omega arith) e in
      rw q (sums_shifted f g d (suc j) (suc k) n (sum_step heat (g k) s) (omega arith) (λ i m l o. h i m (omega arith) o))

  -- n steps and then m
  pub sums_split : (f : ℕ → Float) (j n m k t : ℕ) (s : Sums) → k ≡ j + n → t ≡ n + m → sums_from f heat j s t ≡ sums_from f heat k (sums_from f heat j s n) m
  unfolding sums_from
  sums_split f j zero m k t s e h =
      let a : k ≡ j = omega arith in
      let b : t ≡ m = omega arith in
      rw (a, b)
  sums_split f j (suc n) m k t s e h =
      let b : t ≡ suc (n + m) = omega arith in
      rw b (sums_split f (suc j) n m k (n + m) (sum_step heat (f j) s) (omega arith) refl)

-- ---- a block

-- with the currents of a type in one array and their heats in another
module _ (heat : Float → Float) (factor : Float) (i : List Float) (n : ℕ) (s : Sums) (l : n ≤ 16) {x y : List Float}
    (ex : x ≡ tab 16 (λ j. of i j ⊗ factor)) (ey : y ≡ tab 16 (λ j. heat (of i j ⊗ factor))) where
  pub typed_lanes : lanes_from (of x) (of y) 0 s n ≡ sums_from (λ j. of i j ⊗ factor) heat 0 s n
  typed_lanes =
      lanes_are heat (of x) (of y) 0 n s (λ k h. lane_of 16 (λ j. heat (of i j ⊗ factor)) k (omega arith) ey ∙ ap heat (sym (lane_of 16 (λ j. of i j ⊗ factor) k (omega arith) ex)))
      ∙ sums_shifted heat (of x) (λ j. of i j ⊗ factor) 0 0 0 n s (omega arith) (λ k m h e. let z : m ≡ k = omega arith in rw z (lane_of 16 (λ j. of i j ⊗ factor) k (omega arith) ex))

-- of a fault's currents before the factor of its type
module _ (c : FaultCircuit) (factor dt : Float) (step n : ℕ) (s : Sums) (l : n ≤ 16) {i : List Float} (e : i ≡ tab 16 (λ j. site_current c (of (block_times dt step n) j))) where
  typed : (j k : ℕ) → j < 0 + n → k ≡ step + j → of i j ⊗ factor ≡ current_of (with_factor c factor) (time_at dt k)
  unfolding current_by
  typed j k h o =
      let m : j < n = omega arith in
      let q : j < 16 = omega arith in
      ap (λ (x : Float). x ⊗ factor)
      (lane_of 16 (λ p. site_current c (of (block_times dt step n) p)) j q e
      ∙ ap (site_current c) (get_d_padded 16 n (λ p. time_at dt (step + p)) nought nan j m l ∙ ap (time_at dt) (sym o)))

  pub block_is : sums_from (λ j. of i j ⊗ factor) (dissipated dt (c.r_fault_ohm ⊕ c.r_total_ohm)) 0 s n ≡ sums_of (with_factor c factor) dt step s n
  block_is =
      sums_shifted (dissipated dt (c.r_fault_ohm ⊕ c.r_total_ohm)) (λ j. of i j ⊗ factor) (λ k. current_of (with_factor c factor) (time_at dt k)) step 0 step n s
      (omega arith) typed

-- the loop over the blocks: folding what is left completes the fold of all
module _ (c : FaultCircuit) (factor dt : Float) (step end : ℕ) (s : Sums) where
  pub blocks_more
      : (n : ℕ) {i : List Float} {t : Sums} → n ≡ min (end - step) 16 → i ≡ tab 16 (λ j. site_current c (of (block_times dt step n) j))
      → t ≡ sums_from (λ j. of i j ⊗ factor) (dissipated dt (c.r_fault_ohm ⊕ c.r_total_ohm)) 0 s n
      → sums_of (with_factor c factor) dt (step + n) t (end - (step + n)) ≡ sums_of (with_factor c factor) dt step s (end - step)
  blocks_more n e ei et =
      rw (et ∙ block_is c factor dt step n s (omega arith) ei)
      (sym (sums_split (dissipated dt (c.r_fault_ohm ⊕ c.r_total_ohm)) (λ k. current_of (with_factor c factor) (time_at dt k)) step n (end - (step + n)) (step + n) (end - step) s refl (let z : end - step ≡ n + (end - (step + n)) = omega arith in z)))

  pub blocks_done : end ≤ step → sums_of (with_factor c factor) dt step s (end - step) ≡ s
  unfolding sums_from
  blocks_done l = let e : end - step ≡ 0 = omega arith in rw e
