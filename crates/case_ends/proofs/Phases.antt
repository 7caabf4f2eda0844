-- The steps of a case by the phase of its fault: waiting, lasting, cleared. What they change of what a row is read from. Assumes nothing.
use Prim.Native.Nat.{ℕ, zero, suc, ◌+◌}
use native.Mathlib.Nat.{add-zero}
use native.Mathlib.Omega.{arith}
use mathlib.Core.Path.{◌≡◌, refl, ◌∙◌}
use mathlib.Core.Bool.{Bool, true, false, ◌||◌, cond}
use lib.Dec.{leb}
use lib.Ieee.{Float, le}
use Rattle.float64.specs.Arithmetic.{◌⊕◌}
use Rattle.fault_current.specs.Current.{current_of}
use Rattle.fault_plan.specs.declared.plan.FaultPlan.{FaultPlan}
use Rattle.fault_plan.specs.Fault.{dissipated, while_faulted, after_clearing, before_inception}
use Rattle.fault_plan.specs.Plans.{plan_setting}
use Rattle.run_start.specs.Start.{time_at}
use Rattle.fault_window.specs.Window.{active_in, clears_in}
use Rattle.fault_sums.specs.declared.steps.Sums.{Sums}
use Rattle.fault_sums.specs.Sums.{sum_step, sums_from}
use Rattle.case_steps.specs.declared.open_case.OpenCase.{OpenCase}
use Rattle.case_steps.specs.OpenCases.{outcome_in}
use Rattle.case_steps.specs.Plans.{plan_shows, plan_case_step, plan_case_from}
use Rattle.case_detection.proofs.Looks.{uncounted, lasts, waits, ended}
use Rattle.case_ends.specs.Ends.{sums_in}
use Rattle.fault_window.proofs.Found.{None}

-- ---- a step of a case

module _ (p : FaultPlan) where
  abbrev pub active : Bool → ℕ → Bool
  active = active_in p.constants.dt_ms p.constants.circuit.inception_time_ms

  abbrev pub clears : ℕ → Bool
  clears = clears_in p.constants.dt_ms p.constants.circuit.inception_time_ms p.constants.breaker_clear_ms

  abbrev pub current : ℕ → Float
  current step = current_of p.constants.circuit (time_at p.constants.dt_ms step)

  abbrev pub heat : Float → Float
  heat = dissipated p.constants.dt_ms (p.constants.circuit.r_fault_ohm ⊕ p.constants.circuit.r_total_ohm)

  -- cleared: nothing of the outcome changes
  settled_step : (step : ℕ) (c : OpenCase) → c.variables.fault_cleared ≡ true
      → (outcome_in (plan_case_step p step c) ≡ outcome_in c) × ((plan_case_step p step c).variables.fault_cleared ≡ true)
  unfolding plan_case_step after_clearing
  settled_step step c e =
      let v = c.variables in
      let after = after_clearing (plan_setting p) (time_at p.constants.dt_ms step) v in (
        rw (ended p step v e, e)
            (λ i.
            record {
              cleared = true;
              clearing_current_ka = c.clearing_current_ka;
              energy_mj = v.energy_mj;
              peak_fault_ka = v.peak_fault_ka;
              detected = uncounted c.detected (leb 1 step) (plan_shows p c after) i;
            }),
        rw (ended p step v e),
      )

  pub settled : (n first : ℕ) (c : OpenCase) → c.variables.fault_cleared ≡ true → outcome_in (plan_case_from p first c n) ≡ outcome_in c
  unfolding plan_case_from
  settled zero first c e = refl
  settled (suc n) first c e =
      let s = settled_step first c e in
      settled n (suc first) (plan_case_step p first c) s.1 ∙ s.0

  -- waiting: nothing but the time and what is detected
  pub record Same (c d : OpenCase) : Type 0 where
    pub cleared : d.variables.fault_cleared ≡ c.variables.fault_cleared
    pub active_is : d.variables.fault_active ≡ c.variables.fault_active
    pub sums : sums_in d ≡ sums_in c

  no_activity : (b x : Bool) → (b || x) ≡ false → (b || x) ≡ b
  no_activity true x e = refl
  no_activity false x e = e

  wait_step : (step : ℕ) (c : OpenCase) → c.variables.fault_cleared ≡ false → active c.variables.fault_active step ≡ false → Same c (plan_case_step p step c)
  unfolding plan_case_step before_inception
  wait_step step c e a =
      let v = c.variables in
      rw (waits p step v e a)
      (record { cleared = refl; active_is = no_activity v.fault_active (le p.constants.circuit.inception_time_ms (time_at p.constants.dt_ms step)) a; sums = rw e })

  pub waiting : (m first : ℕ) (c : OpenCase) → c.variables.fault_cleared ≡ false → None (active c.variables.fault_active) first m → Same c (plan_case_from p first c m)
  unfolding plan_case_from
  waiting zero first c e a = record { cleared = refl; active_is = refl; sums = refl }
  waiting (suc m) first c e a =
      let one = wait_step first c e a.0 in
      let rest = waiting m (suc first) (plan_case_step p first c) (one.cleared ∙ e) (rw one.active_is a.1) in
      record { cleared = rest.cleared ∙ one.cleared; active_is = rest.active_is ∙ one.active_is; sums = rest.sums ∙ one.sums }

  -- lasting: peak and energy grow; the current of the step is kept where it clears
  pub record Summed (c d : OpenCase) (s : Sums) (cleared : Bool) : Type 0 where
    pub cleared_is : d.variables.fault_cleared ≡ cleared
    pub peak_is : d.variables.peak_fault_ka ≡ s.peak_ka
    pub energy_is : d.variables.energy_mj ≡ s.energy_mj
    pub current_is : d.clearing_current_ka ≡ cond cleared s.current_ka c.clearing_current_ka

  stays_active : (step : ℕ) (c : OpenCase) → c.variables.fault_cleared ≡ false → active c.variables.fault_active step ≡ true → (plan_case_step p step c).variables.fault_active ≡ true
  unfolding plan_case_step while_faulted
  stays_active step c e a = rw (lasts p step c.variables e a)

  pub last_step : (step : ℕ) (c : OpenCase) (s : Sums) → c.variables.fault_cleared ≡ false → active c.variables.fault_active step ≡ true
      → c.variables.peak_fault_ka ≡ s.peak_ka → c.variables.energy_mj ≡ s.energy_mj
      → Summed c (plan_case_step p step c) (sum_step heat (current step) s) (clears step)
  unfolding plan_case_step while_faulted
  last_step step c s e a is-peak is-energy =
      rw (lasts p step c.variables e a)
      (record { cleared_is = refl; peak_is = rw is-peak; energy_is = rw is-energy; current_is = rw e })

  -- steps of which none clears
  pub lasting : (m step : ℕ) (c : OpenCase) (s : Sums) → c.variables.fault_cleared ≡ false → active c.variables.fault_active step ≡ true
      → c.variables.peak_fault_ka ≡ s.peak_ka → c.variables.energy_mj ≡ s.energy_mj → None clears step m
      → Summed c (plan_case_from p step c m) (sums_from current heat step s m) false × (active (plan_case_from p step c m).variables.fault_active (step + m) ≡ true)
  unfolding plan_case_from sums_from
  lasting zero step c s e a is-peak is-energy none = (record { cleared_is = e; peak_is = is-peak; energy_is = is-energy; current_is = refl }, rw add-zero a)
  lasting (suc m) step c s e a is-peak is-energy none =
      let one = last_step step c s e a is-peak is-energy in
      let rest = lasting m (suc step) (plan_case_step p step c) (sum_step heat (current step) s) (one.cleared_is ∙ none.0) (rw (stays_active step c e a)) one.peak_is one.energy_is none.1 in
      let f : step + suc m ≡ suc step + m = omega arith in (
        record {
          cleared_is = rest.0.cleared_is;
          peak_is = rest.0.peak_is;
          energy_is = rest.0.energy_is;
          current_is = rest.0.current_is ∙ one.current_is ∙ rw none.0;
        },
        rw f rest.1,
      )

  -- ---- so many steps, and so many more

  pub split : (a first b : ℕ) (c : OpenCase) → plan_case_from p first c (a + b) ≡ plan_case_from p (first + a) (plan_case_from p first c a) b
  unfolding plan_case_from
  split zero first b c = let e : 0 + b ≡ b = omega arith in rw (e, add-zero)
  split (suc a) first b c =
      let e : suc a + b ≡ suc (a + b) = omega arith in
      let f : first + suc a ≡ suc first + a = omega arith in
      rw (e, f) (split a (suc first) b (plan_case_step p first c))
