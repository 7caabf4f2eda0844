-- The claims of specs/Claims. Assumes nothing.
use Prim.Native.Nat.{ℕ, ◌+◌, ◌≤◌, min}
use native.Mathlib.Omega.{arith}
use mathlib.Core.Path.{◌≡◌, refl, ap, ◌∙◌}
use mathlib.Core.Bool.{Bool, true, false, not, ◌&&◌, cond}
use mathlib.Core.List.{List}
use lib.Ieee.{Float, nan, le}
use Rattle.lists.specs.Tables.{over}
use Rattle.lists.proofs.Fills.{get_d_padded, get_d_upto_out, upto_over}
use Rattle.float64.specs.Constants.{nought, milli}
use Rattle.float64.specs.Arithmetic.{◌⊗◌, of}
use Rattle.grid.specs.declared.parts.DcFaultEvent.{DcFaultEvent}
use Rattle.grid.specs.declared.simulator.DcSwitchingSimulator.{DcSwitchingSimulator}
use Rattle.timing.specs.Steps.{time_step_ms, time_of_step}
use Rattle.network.specs.Network.{network_of, drain_of}
use Rattle.step_claims.proofs.Claims.{network_claims}
use Rattle.run_start.specs.Start.{rated, rated_of}
use Rattle.fault_circuit.specs.Circuit.{circuit_at}
use Rattle.fault_current.proofs.Claims.{current_claims}
use Rattle.fault_plan.specs.declared.variables.FaultVariables.{FaultVariables}
use Rattle.fault_plan.specs.Fault.{Setting, setting_of, fault_body, body, active_at, while_faulted, after_clearing, before_inception}
use Rattle.fault_plan.specs.Plans.{plan_of, constants_of, plan_setting, plan_step}
use Rattle.fault_step_claims.specs.Claims.{PlanClaims, Stays, StepClaims}
use Rattle.fault_step_claims.proofs.Settings.{Agree, body_same}
use Rattle.fault_plan.proofs.Phases.{waiting, resting, still_resting}

-- what stands past the first n stays
past : (n : ℕ) (f : ℕ → Float) (d : List Float) (k : ℕ) → n ≤ k → of (over n f nan d) k ≡ of d k
past n f d k l = rw (← upto_over n f nan d) (get_d_upto_out n f d nan k l)

all_of_them : (n m : ℕ) → n ≤ m → min (min n m) m ≡ n
all_of_them n m h = omega arith

module _ (g : DcSwitchingSimulator) (f : DcFaultEvent) (n : g.n_stations ≤ 32) (m : g.n_cables ≤ 64) where
  -- the plan's setting and the grid's
  agree : Agree (plan_setting (plan_of g f)) (setting_of g f)
  unfolding plan_of constants_of rated_of network_of circuit_at
  agree =
      record {
        stations = all_of_them g.n_stations 32 n;
        rated = λ i l. get_d_padded 96 (min g.n_stations 32) (rated g.stations) nought nan i (omega arith) (omega arith);
        dt = refl;
        duration = refl;
        clear = refl;
        inception = refl;
        resistance = refl;
        rk4 = λ s. network_claims.step g (drain_of g f) s (time_step_ms g ⊗ milli) n m;
        current = λ t. current_claims.worked_out_once g f t;
        left = λ i c t. refl;
      }

  plan_step_lem : (step : ℕ) (v : FaultVariables) → plan_step (plan_of g f) step v ≡ fault_body g f step v
  unfolding plan_step fault_body
  plan_step_lem step v = body_same _ _ agree step v

pub plan_claims : PlanClaims
plan_claims =
    record {
      fault = plan_step_lem;
      waiting = waiting;
      resting = resting;
      still_resting = λ p step v h. rw (← resting p step v h) (still_resting p step v ∙ h);
    }

of_three : {A : Type 0} (b c : Bool) (P : A → Type 0) (x y w : A) → P x → P y → P w → P (cond b x (cond c y w))
of_three true c P x y w p q r = p
of_three false true P x y w p q r = q
of_three false false P x y w p q r = r

-- what each of the branches has, the body has
module _ (g : DcSwitchingSimulator) (f : DcFaultEvent) (step : ℕ) (v : FaultVariables) where
  abbrev z : Setting
  z = setting_of g f

  abbrev t : Float
  t = time_of_step g step

  each_branch : (P : FaultVariables → Type 0) → P (while_faulted z t v) → P (after_clearing z t v) → P (before_inception z t v) → P (fault_body g f step v)
  unfolding fault_body body
  each_branch P a b c = of_three (active_at z t v && not v.fault_cleared) v.fault_cleared P _ _ _ a b c

  time : (fault_body g f step v).state.time_ms ≡ t
  unfolding while_faulted after_clearing before_inception
  time = each_branch (λ w. w.state.time_ms ≡ t) refl refl refl

  is_waiting : v.fault_active ≡ false → v.fault_cleared ≡ false → le f.inception_time_ms t ≡ false → fault_body g f step v ≡ before_inception z t v
  unfolding fault_body body
  is_waiting a c l = rw (a, c, l)

  waiting_y : v.fault_active ≡ false → v.fault_cleared ≡ false → le f.inception_time_ms t ≡ false → (fault_body g f step v).state.y ≡ v.state.y
  unfolding before_inception
  waiting_y a c l = ap (λ (w : FaultVariables). w.state.y) (is_waiting a c l)

  not_both : (a : Bool) → (a && not true) ≡ false
  not_both true = refl
  not_both false = refl

  is_cleared : v.fault_cleared ≡ true → fault_body g f step v ≡ after_clearing z t v
  unfolding fault_body body
  is_cleared c = rw (c, not_both (active_at z t v))

  after_clearing_lem : v.fault_cleared ≡ true → Stays g v (fault_body g f step v)
  unfolding after_clearing
  after_clearing_lem c =
      rw (is_cleared c)
      (record {
        cable_currents = λ k. past g.n_stations _ v.state.y (g.n_stations + k) (omega arith);
        station_currents = refl;
        breakers = refl;
        peak = refl;
        largest_di_dt = refl;
        energy = refl;
        clearing_time = refl;
        cleared_current = refl;
        cleared = refl;
      })

pub step_claims : StepClaims
step_claims = record { fault_time = time; before_inception_lem = waiting_y; after_clearing_lem = after_clearing_lem }
