-- The claims of specs/Claims. Assumes nothing.
use Prim.Native.Nat.{ℕ, zero, suc, ◌+◌, ◌≤◌, min}
use native.Mathlib.Nat.{add-zero}
use native.Mathlib.Omega.{arith}
use mathlib.Core.Path.{◌≡◌, refl, ap}
use mathlib.Core.Bool.{Bool, ◌&&◌, ◌||◌}
use borrow.Author.Tests.{le-leb}
use Rattle.grid.specs.declared.parts.DcFaultEvent.{DcFaultEvent}
use Rattle.grid.specs.declared.simulator.DcSwitchingSimulator.{DcSwitchingSimulator}
use Rattle.state_derivatives.specs.declared.state.DcTransientState.{DcTransientState}
use Rattle.network.specs.Network.{network_of}
use Rattle.detection.specs.Detection.{detected, detected_by}
use Rattle.detection.proofs.Claims.{detection_claims}
use Rattle.fault_plan.specs.Fault.{fault_body, fault_after}
use Rattle.fault_plan.specs.Plans.{plan_of}
use Rattle.fault_step_claims.proofs.Claims.{plan_claims}
use Rattle.case_listing.specs.Listing.{counts, detected_in, some_detected, clearing_current, outcome_after}
use Rattle.case_steps.specs.declared.open_case.OpenCase.{OpenCase}
use Rattle.case_steps.specs.OpenCases.{start_case, outcome_in, counts_at, case_step, case_from}
use Rattle.case_steps.specs.Plans.{plan_case_step, plan_case_from}
use Rattle.case_claims.specs.Claims.{IsAfter, CaseClaims}

module _ (g : DcSwitchingSimulator) (f : DcFaultEvent) where
  -- ---- by a plan

  module _ (few : g.n_stations ≤ 32) (fewer : g.n_cables ≤ 64) where
    -- the counts of the network are the grid's
    shows : (s before : DcTransientState) → detected_by (plan_of g f).rated_kv (plan_of g f).network.n_stations (plan_of g f).network.n_cables s before ≡ detected g s before
    unfolding plan_of network_of
    shows s before =
        let n : min g.n_stations 32 ≡ g.n_stations = omega arith in
        let m : min g.n_cables 64 ≡ g.n_cables = omega arith in
        rw (n, m) (detection_claims.by_table g s before few fewer)

    one_step : (step : ℕ) (c : OpenCase) → plan_case_step (plan_of g f) step c ≡ case_step g f step c
    unfolding plan_case_step case_step
    one_step step c = rw (plan_claims.fault g f few fewer step c.variables, shows (fault_body g f step c.variables).state c.variables.state)

    by_plan : (first : ℕ) (c : OpenCase) (n : ℕ) → plan_case_from (plan_of g f) first c n ≡ case_from g f first c n
    unfolding plan_case_from case_from
    by_plan first c zero = refl
    by_plan first c (suc n) = rw (one_step first c) (by_plan (suc first) (case_step g f first c) n)

  -- ---- one step more

  pub from_suc : (n first : ℕ) (c : OpenCase) → case_from g f first c (suc n) ≡ case_step g f (first + n) (case_from g f first c n)
  unfolding case_from
  from_suc zero first c = rw add-zero
  from_suc (suc n) first c = let e : suc first + n ≡ first + suc n = omega arith in rw e at (from_suc n (suc first) (case_step g f first c))

  -- ---- from the start

  counted : (n : ℕ) → (counts_at n (fault_after g f n) && detected g (fault_after g f (suc n)).state (fault_after g f n).state) ≡ (counts g f n && detected_in g f n)
  counted zero = refl
  counted (suc n) = rw (le-leb 1 (suc n) (omega arith))

  next : (n : ℕ) (c : OpenCase) → IsAfter g f n c → IsAfter g f (suc n) (case_step g f n c)
  unfolding case_step fault_after some_detected clearing_current
  next n c h =
      record {
        variables = rw h.variables;
        detected = rw (h.variables, h.detected) (ap (λ (b : Bool). some_detected g f n || b) (counted n));
        clearing_current_lem = rw (h.variables, h.clearing_current_lem);
      }

  at_start : IsAfter g f 0 (case_from g f 0 (start_case g) 0)
  unfolding case_from fault_after some_detected clearing_current
  at_start = record { variables = refl; detected = refl; clearing_current_lem = refl }

  after : (n : ℕ) → IsAfter g f n (case_from g f 0 (start_case g) n)
  after zero = at_start
  after (suc n) =
      let e : 0 + n ≡ n = omega arith in
      rw (from_suc n 0 (start_case g), e) (next n (case_from g f 0 (start_case g) n) (after n))

  outcome : (n : ℕ) → outcome_in (case_from g f 0 (start_case g) n) ≡ outcome_after g f n
  unfolding outcome_after
  outcome n = let h = after n in rw (h.variables, h.detected, h.clearing_current_lem)

pub case_claims : CaseClaims
case_claims =
    record {
      by_plan = by_plan;
      from_start = after;
      outcome = outcome;
      state_of_step_lem = λ g f n. rw (after g f (suc n)).variables;
    }
