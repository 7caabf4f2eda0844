-- The claims of specs/Claims. Assumes nothing.
use Prim.Native.Nat.{ℕ, zero, suc, ◌+◌, ◌-◌, ◌≤◌, ◌<◌}
use mathlib.Core.Path.{◌≡◌, refl, sym, ap, ◌∙◌}
use mathlib.Core.Bool.{true, false}
use mathlib.Core.Logic.{⊎_elim}
use native.Mathlib.Omega.{arith}
use native.Mathlib.Numerals.{add-one}
use lib.Ieee.{lt, of_bits}
use Rattle.lists.proofs.Counting.{by-test, contrary, eq_or_ne}
use Rattle.float64.specs.Constants.{nought}
use Rattle.grid.specs.Simulator.{station_count}
use Rattle.grid.specs.declared.simulator.DcSwitchingSimulator.{DcSwitchingSimulator}
use Rattle.flow_voltages.specs.declared.voltages.Voltages.{Voltages}
use Rattle.flow_voltages.specs.Constants.{tolerance}
use Rattle.conductances.specs.Conductances.{conductances_of}
use Rattle.flow_voltages.specs.Balance.{wanted_powers}
use Rattle.flow_voltages.specs.Voltages.{passes, voltages, rated_voltages, voltages_of}
use Rattle.pass_claims.specs.Claims.{voltages_after, mismatch_after, Stops, Spent, PassClaims}

-- ---- the passes

module _ (g : DcSwitchingSimulator) where
  abbrev go : ℕ → ℕ → Voltages
  go left k = passes (conductances_of g) (station_count g.n_stations) (rated_voltages g.stations (station_count g.n_stations)) (wanted_powers g.stations (station_count g.n_stations)) left k (voltages_after g k)

  -- a pass that does not stop hands on to the next
  next : (left k : ℕ) → lt (mismatch_after g k) tolerance ≡ false → go (suc left) k ≡ go left (suc k)
  unfolding passes voltages_after
  next left k h = rw (h, add-one)

  stop : (left k : ℕ) → lt (mismatch_after g k) tolerance ≡ true → go (suc left) k ≡ record { v_dc_kv = voltages_after g k; converged = true; iterations = suc k }
  unfolding passes
  stop left k h = rw (h, add-one)

  Before : ℕ → Type 0
  Before k = (j : ℕ) → j < k → lt (mismatch_after g j) tolerance ≡ false

  before_more : (k : ℕ) → Before k → lt (mismatch_after g k) tolerance ≡ false → Before (suc k)
  unfolding Before
  before_more k b h j l = ⊎_elim (λ e. rw e h) (λ d. b j (omega arith)) (eq_or_ne j k)

  stops : (left k : ℕ) → left + k ≡ 50 → Before k → (go left k).converged ≡ true → Stops g (go left k)
  unfolding passes Before
  stops zero k e b h = contrary h refl
  stops (suc left) k e b h =
      by-test (lt (mismatch_after g k) tolerance)
      (λ t. rw (stop left k t)
      record { k = k; number = refl; within_50 = omega arith; voltages = refl; below = t; not_before = b })
      (λ f. let on : (go left (suc k)).converged ≡ true = rw (← next left k f) h in
      rw (next left k f) (stops left (suc k) (omega arith) (before_more k b f) on))

  spent : (left k : ℕ) → left + k ≡ 50 → Before k → (go left k).converged ≡ false → Spent g (go left k)
  unfolding passes Before
  spent zero k e b h =
      let z : k ≡ 50 = omega arith in
      record { number = z; voltages = ap (voltages_after g) z; never_below = λ j l. b j (omega arith) }
  spent (suc left) k e b h =
      by-test (lt (mismatch_after g k) tolerance)
      (λ t. let on : true ≡ false = ap (λ (x : Voltages). x.converged) (sym (stop left k t)) ∙ h in contrary refl on)
      (λ f. let on : (go left (suc k)).converged ≡ false = rw (← next left k f) h in
      rw (next left k f) (spent left (suc k) (omega arith) (before_more k b f) on))

none_before : (g : DcSwitchingSimulator) → Before g 0
unfolding Before
none_before g j l = absurd (let z : 1 ≤ 0 = omega arith in omega arith)

pub pass_claims : PassClaims
unfolding voltages voltages_after
pass_claims =
    record {
      converged = λ g h. stops g 50 0 refl (none_before g) h;
      not_converged_lem = λ g h. spent g 50 0 refl (none_before g) h;
    }

-- ---- how many passes

pub counted : (g : DcSwitchingSimulator) → (1 ≤ (voltages_of g).iterations) × ((voltages_of g).iterations ≤ 50)
counted g =
    by-test (voltages_of g).converged
    (λ t. let s = pass_claims.converged g t in rw s.number (omega arith, s.within_50))
    (λ f. rw (pass_claims.not_converged_lem g f).number (omega arith, omega arith))

-- with one station nothing is to be met
small : lt nought tolerance ≡ true
unfolding lt of_bits
small = refl

nothing_lacks : (g : DcSwitchingSimulator) → g.n_stations ≡ 1 → lt (mismatch_after g 0) tolerance ≡ true
nothing_lacks g e = let z : station_count g.n_stations - 1 ≡ 0 = omega (arith, e) in rw z small

pub first_pass : (g : DcSwitchingSimulator) → g.n_stations ≡ 1 → ((voltages_of g).converged ≡ true) × ((voltages_of g).iterations ≡ 1)
unfolding voltages voltages_after
first_pass g e = rw (stop g 49 0 (nothing_lacks g e)) (refl, refl)
