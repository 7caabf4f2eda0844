-- What detection reads of a case, and what a step makes of that: the rest of the case has no part in it. Assumes nothing.
use Prim.Native.Nat.{ℕ, zero, suc, ◌+◌, ◌-◌, ◌<◌}
use native.Mathlib.Numerals.{add-one}
use native.Mathlib.Omega.{arith}
use mathlib.Core.Path.{◌≡◌, refl, ap, ◌∙◌}
use mathlib.Core.Bool.{Bool, true, false, not, ◌&&◌, ◌||◌, cond}
use mathlib.Core.List.{List}
use lib.Dec.{leb}
use lib.Ieee.{Float, nan, le}
use Rattle.lists.specs.Tables.{over}
use Rattle.lists.proofs.Counting.{by-test}
use Rattle.float64.specs.Constants.{milli}
use Rattle.float64.specs.Arithmetic.{◌⊖◌, ◌⊗◌, of}
use Rattle.network.specs.Network.{station_count}
use Rattle.state_derivatives.specs.Derivatives.{stations_in, cables_in, slopes}
use Rattle.transient.specs.Rk4.{new_state, step_by}
use Rattle.run_start.specs.Start.{time_at}
use Rattle.recovery.specs.Recovery.{recovering}
use Rattle.detection.specs.Detection.{shown_by, detected_by}
use Rattle.fault_plan.specs.declared.variables.FaultVariables.{FaultVariables}
use Rattle.fault_plan.specs.declared.plan.FaultPlan.{FaultPlan}
use Rattle.fault_plan.specs.Fault.{body, while_faulted, after_clearing, before_inception}
use Rattle.fault_plan.specs.Plans.{plan_setting, plan_step}
use Rattle.case_steps.specs.declared.open_case.OpenCase.{OpenCase}
use Rattle.case_steps.specs.Plans.{plan_case_step, plan_case_from}

-- of a case: its voltages and cable currents, the time of its last step, and three flags
pub record Look : Type 0 where
  pub y : List Float
  pub time : Float
  pub cleared : Bool
  pub active : Bool
  pub detected : Bool

abbrev pub look : OpenCase → Look
look c =
    record {
      y = c.variables.state.y;
      time = c.variables.state.time_ms;
      cleared = c.variables.fault_cleared;
      active = c.variables.fault_active;
      detected = c.detected;
    }

-- a fault neither cleared nor detected
abbrev pub at : List Float → Float → Bool → Look
at y time active = record { y = y; time = time; cleared = false; active = active; detected = false }

no_more : (b : Bool) → (b && not true) ≡ false
no_more true = refl
no_more false = refl

-- a step that does not count changes nothing of what is detected
pub uncounted : (d b s : Bool) → (d || ((b && not true) && s)) ≡ d
uncounted true b s = refl
uncounted false true s = refl
uncounted false false s = refl

counted : (b s : Bool) → ((b && true) && s) ≡ (b && s)
counted true s = refl
counted false s = refl

module _ (p : FaultPlan) where
  abbrev pub time_of : ℕ → Float
  time_of step = time_at p.constants.dt_ms step

  -- the fault is active at a time
  abbrev pub active_by : Float → Bool → Bool
  active_by t active = active || le p.constants.circuit.inception_time_ms t

  -- the breakers clear an active fault at a time
  abbrev pub clears_by : Float → Bool
  clears_by t = le p.constants.breaker_clear_ms (t ⊖ p.constants.circuit.inception_time_ms)

  -- the numbers after a step of a fault that is not cleared
  abbrev pub numbers_by : Bool → List Float → List Float
  numbers_by active y = cond active (new_state (stations_in p.network) (cables_in p.network) (slopes p.network p.constants.drain) (p.constants.dt_ms ⊗ milli) y) y

  -- and of one that is
  abbrev recovering_by : List Float → List Float
  recovering_by y = over (station_count p.constants.n_stations) (λ i. recovering (of p.rated_kv i) (of y i)) nan y

  abbrev pub shows : (y before : List Float) → (t time : Float) → Bool
  shows y before t time = shown_by p.rated_kv p.network.n_stations p.network.n_cables y before t time

  unfoldable pub look_step : ℕ → Look → Look
  look_step step k =
      let t = time_of step in
      let active = active_by t k.active in
      let y = cond k.cleared (recovering_by k.y) (numbers_by active k.y) in
      record {
        y = y;
        time = t;
        cleared = k.cleared || (active && clears_by t);
        active = active;
        detected = k.detected || ((leb 1 step && not k.cleared) && shows y k.y t k.time);
      }

  unfoldable pub look_from : ℕ → Look → ℕ → Look
  look_from first k zero = k
  look_from first k (suc n) = look_from (suc first) (look_step first k) n

  -- ---- a step of the case is such a step

  module _ (step : ℕ) (v : FaultVariables) where
    pub lasts : v.fault_cleared ≡ false → active_by (time_of step) v.fault_active ≡ true → plan_step p step v ≡ while_faulted (plan_setting p) (time_of step) v
    unfolding plan_step body
    lasts c a = rw (c, a)

    pub waits : v.fault_cleared ≡ false → active_by (time_of step) v.fault_active ≡ false → plan_step p step v ≡ before_inception (plan_setting p) (time_of step) v
    unfolding plan_step body
    waits c a = rw (c, a)

    pub ended : v.fault_cleared ≡ true → plan_step p step v ≡ after_clearing (plan_setting p) (time_of step) v
    unfolding plan_step body
    ended c = rw (c, no_more (active_by (time_of step) v.fault_active))

  step_looks : (step : ℕ) (c : OpenCase) → look (plan_case_step p step c) ≡ look_step step (look c)
  unfolding plan_case_step while_faulted after_clearing before_inception step_by detected_by look_step
  step_looks step c =
      let v = c.variables in
      by-test v.fault_cleared
      (λ h. rw (ended step v h, h))
      (λ h. by-test (active_by (time_of step) v.fault_active)
      (λ a. rw (lasts step v h a, h, a))
      (λ a. rw (waits step v h a, h, a)))

  pub from_looks : (n first : ℕ) (c : OpenCase) → (plan_case_from p first c n).detected ≡ (look_from first (look c) n).detected
  unfolding plan_case_from look_from
  from_looks zero first c = refl
  from_looks (suc n) first c = from_looks n (suc first) (plan_case_step p first c) ∙ ap (λ (k : Look). (look_from (suc first) k n).detected) (step_looks first c)

  -- of a case neither cleared nor detected
  pub from_open : (n first : ℕ) (c : OpenCase) → c.detected ≡ false → c.variables.fault_cleared ≡ false
      → (plan_case_from p first c n).detected ≡ (look_from first (at c.variables.state.y c.variables.state.time_ms c.variables.fault_active) n).detected
  from_open n first c h k =
      from_looks n first c
      ∙ ap (λ (l : Look). (look_from first l n).detected)
      (λ i. record { y = c.variables.state.y; time = c.variables.state.time_ms; cleared = k i; active = c.variables.fault_active; detected = h i })

  -- ---- what stays

  step_detected : (step : ℕ) (k : Look) → k.detected ≡ true → (look_step step k).detected ≡ true
  unfolding look_step
  step_detected step k h = rw h

  step_cleared : (step : ℕ) (k : Look) → k.cleared ≡ true → (look_step step k).cleared ≡ true
  unfolding look_step
  step_cleared step k h = rw h

  step_over : (step : ℕ) (k : Look) → k.cleared ≡ true → (look_step step k).detected ≡ k.detected
  unfolding look_step
  step_over step k h = rw h (uncounted k.detected (leb 1 step) (shows (recovering_by k.y) k.y (time_of step) k.time))

  -- a step that is detected stays so
  pub detected_stays : (n first : ℕ) (k : Look) → k.detected ≡ true → (look_from first k n).detected ≡ true
  unfolding look_from
  detected_stays zero first k h = h
  detected_stays (suc n) first k h = detected_stays n (suc first) (look_step first k) (step_detected first k h)

  -- after clearing no step counts
  pub cleared_stays : (n first : ℕ) (k : Look) → k.cleared ≡ true → (look_from first k n).detected ≡ k.detected
  unfolding look_from
  cleared_stays zero first k h = refl
  cleared_stays (suc n) first k h = cleared_stays n (suc first) (look_step first k) (step_cleared first k h) ∙ step_over first k h

  -- ---- a step of a fault neither cleared nor detected, as the code works it out

  pub record Turned (step : ℕ) (y moved : List Float) (time t : Float) (active shown : Bool) : Type 0 where
    pub is : look_step step (at y time active) ≡ record { y = moved; time = t; cleared = active_by t active && clears_by t; active = active_by t active; detected = leb 1 step && shown }

  pub turned : (step : ℕ) (y moved : List Float) (time t : Float) (active shown : Bool) → t ≡ time_of step → moved ≡ numbers_by (active_by t active) y → shown ≡ shows moved y t time → Turned step y moved time t active shown
  unfolding look_step
  turned step y moved time t active shown et ey es =
      record { is = rw (es, ey, et, counted (leb 1 step) (shows (numbers_by (active_by (time_of step) active) y) y (time_of step) time)) }

  -- with the steps from it up to `end`
  module _ (step end : ℕ) {y moved : List Float} {time t : Float} {active shown : Bool} (l : step < end) (e : Turned step y moved time t active shown) where
    abbrev left : ℕ
    left = end - suc step

    one_more : end - step ≡ suc left
    one_more = omega (arith, l)

    -- it is detected
    pub found : (leb 1 step && shown) ≡ true → (look_from step (at y time active) (end - step)).detected ≡ true
    unfolding look_from
    found h = rw one_more (detected_stays left (suc step) (look_step step (at y time active)) (rw e.is h))

    -- it clears the fault and is not detected
    pub gone : (leb 1 step && shown) ≡ false → (active_by t active && clears_by t) ≡ true → (look_from step (at y time active) (end - step)).detected ≡ false
    unfolding look_from
    gone h k = rw one_more (cleared_stays left (suc step) (look_step step (at y time active)) (rw e.is k) ∙ rw e.is h)

    -- neither
    pub next : (leb 1 step && shown) ≡ false → (active_by t active && clears_by t) ≡ false
        → (look_from step (at y time active) (end - step)).detected ≡ (look_from (step + 1) (at moved t (active_by t active)) (end - (step + 1))).detected
    unfolding look_from
    next h k =
        rw (one_more, add-one)
        (ap (λ (q : Look). (look_from (suc step) q left).detected)
        (e.is ∙ λ i. record { y = moved; time = t; cleared = k i; active = active_by t active; detected = h i }))
