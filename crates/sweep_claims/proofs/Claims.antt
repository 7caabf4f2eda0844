-- Demand 3 of the sweep: what `portions` has proved of any cases, said of the listing that 000's runs give. Assumes nothing.
use Prim.Native.Nat.{ℕ, zero, suc, ◌+◌, ◌*◌, ◌/◌, ◌%◌, ◌≤◌, ◌<◌}
use native.Mathlib.Nat.{mul-div_cancel_left}
use native.Mathlib.Omega.{arith}
use mathlib.Core.Path.{◌≡◌, refl, sym, ap, ◌∙◌}
use mathlib.Core.Logic.{◌↔◌, ⊎_elim}
use mathlib.Core.Bool.{Bool, true, false, not, cond}
use mathlib.Core.Option.{Option}
use mathlib.Core.List.{List, [], ◌∷◌, ◌++◌}
use lib.Dec.{eqb, ltb}
use lib.ListN.{length, take}
use borrow.Author.Tests.{eq-eqb, ne_eqb, lt-ltb, ltb-true, ltb-false}
use Rattle.lists.proofs.Counting.{by-test, eq_or_ne}
use Rattle.grid.specs.declared.parts.SweepOrder.{SweepOrder}
use Rattle.grid.specs.declared.simulator.DcSwitchingSimulator.{DcSwitchingSimulator}
use Rattle.timing.specs.Steps.{steps_of}
use Rattle.rule_tests.specs.Rules.{too_many_parts}
use Rattle.rules.specs.Studies.{sweep_refusal, start_refusal, first, broken}
use Rattle.rule_claims.proofs.Claims.{refusal_claims, accepted_claims}
use Rattle.power_flow.specs.declared.flow.DcGridSolution.{DcGridSolution}
use Rattle.power_flow.specs.Flow.{solution_of}
use Rattle.portions.specs.Stopping.{Stepper, joined}
use Rattle.portions.specs.Tally.{tally}
use Rattle.portions.specs.Calls.{Called, Made, Chain, last, and, handed, seen}
use Rattle.portions.specs.Cases as generic
use Rattle.portions.specs.Cases.{to_list, is_some, kept_after}
use Rattle.portions.specs.Demand3 as whole
use Rattle.portions.proofs.Demand3.{demand3_claims}
use Rattle.portions.proofs.Course.{chain_and}
use Rattle.fault_plan.specs.Fault.{fault_after}
use Rattle.case_reasons.specs.declared.reasons.CaseOutcome.{CaseOutcome}
use Rattle.fault_cases.specs.Cases.{cases_of, fault_of}
use Rattle.case_listing.specs.Listing.{some_detected, clearing_current, outcome_after, row_for, case_row, listed, listing}
use Rattle.case_steps.specs.declared.open_case.OpenCase.{OpenCase}
use Rattle.case_steps.specs.OpenCases.{start_case, outcome_in, case_step, case_from}
use Rattle.case_claims.proofs.Claims.{from_suc, case_claims}
use Rattle.fault_sweep.specs.declared.sweep.Sweep.{Sweep}
use Rattle.fault_sweep.specs.KeptSweep.{case_after, kept_at, sweep_after}
use Rattle.sweep_start.specs.Start.{sweep_refused, blank_sweep, started_sweep}
use Rattle.fault_sweep.specs.Advance.{sweep_broken, cases_for, sweep_with, sweep_stepper}
use Rattle.sweep_claims.specs.Claims.{Calls, steps, closed, rows_of, OfCall, Demand3, SweepClaims}
use Rattle.fault_sweep.proofs.Shown.{swept}

-- ---- lists of calls

pub last_and : {K : Type 0} (s : K) (cs : List (Called ℕ K)) (c : Called ℕ K) → last s (and cs c) ≡ c.kept
unfolding last
last_and s [] c = refl
last_and s (d ∷ cs) c = last_and d.kept cs c

-- the calls before one of a list, and that one
chain_split : (m : Stepper ℕ) (s : m.Kept) (before after : List (Called ℕ m.Kept)) (c : Called ℕ m.Kept) → Chain m s (before ++ (c ∷ after)) → Chain m s before × Made m (last s before) c
unfolding last
chain_split m s [] after c ch = (tt, ch.0)
chain_split m s (d ∷ ds) after c ch = let r = chain_split m d.kept ds after c ch.1 in ((ch.0, r.0), r.1)

-- ---- the kept machine's cases are 000's

module _ (g : DcSwitchingSimulator) (o : SweepOrder) (flow : DcGridSolution) where
  -- the cases, as an advance makes them
  p : generic.Cases ℕ
  p = cases_for g o flow

  steps_are : (k n : ℕ) → generic.case_after (cases_for g o flow) k n ≡ case_from g (fault_of o k) 0 (start_case g) n
  unfolding generic.case_after case_from
  steps_are k zero = refl
  steps_are k (suc n) =
      let e : 0 + n ≡ n = omega arith in
      ap (case_step g (fault_of o k) n) (steps_are k n) ∙ sym (rw e at (from_suc g (fault_of o k) n 0 (start_case g)))

  case_is : (k n : ℕ) → generic.case_after (cases_for g o flow) k n ≡ case_after g (fault_of o k) n
  case_is k n =
      let h = case_claims.from_start g (fault_of o k) n in
      steps_are k n ∙ λ i. record { variables = h.variables i; detected = h.detected i; clearing_current_ka = h.clearing_current_lem i }

  row_is : (k : ℕ) → generic.row_of (cases_for g o flow) k ≡ case_row g o flow k
  unfolding generic.row_of case_row
  row_is k = ap (λ (x : CaseOutcome). row_for g o flow k x) (ap outcome_in (steps_are k (steps_of g)) ∙ case_claims.outcome g (fault_of o k) (steps_of g))

  listed_is : generic.listed (cases_for g o flow) ≡ listed g o flow
  unfolding generic.listed
  listed_is = λ i k. is_some (row_is k i)

  listing_is : (k : ℕ) → generic.listing (cases_for g o flow) k ≡ listing g o flow k
  unfolding generic.listing listing
  listing_is zero = refl
  listing_is (suc k) = rw (listing_is k, row_is k)

  kept_is : (t : ℕ) → sweep_with g o flow (kept_after (cases_for g o flow) t) ≡ sweep_after g o flow t
  unfolding kept_after sweep_after
  kept_is t =
      by-test (ltb t (steps_of g * cases_of g o))
      (λ e. rw e (ap (kept_at g o flow (t / steps_of g) (t % steps_of g)) (case_is (t / steps_of g) (t % steps_of g))))
      (λ e. rw e)

-- ---- a started sweep

module _ (g : DcSwitchingSimulator) (o : SweepOrder) (z : sweep_refused g o ≡ 0) where
  abbrev flow : DcGridSolution
  flow = solution_of g

  accepted : sweep_refusal g o ≡ 0
  accepted = ⊎_elim (λ e. e) (λ ne. absurd (ne (sym (refusal_claims.start_earlier g o (not (solution_of g).converged) ne) ∙ z))) (eq_or_ne (sweep_refusal g o) 0)

  some_steps : 0 < steps_of g
  some_steps = (accepted_claims.sweep g o accepted).0

  started : started_sweep g o ≡ sweep_after g o flow 0
  unfolding started_sweep
  started = rw (eq-eqb (sweep_refused g o) 0 z)

  fresh_is : started_sweep g o ≡ sweep_with g o flow (kept_after (cases_for g o flow) 0)
  fresh_is = started ∙ sym (kept_is g o flow 0)

  -- the tally is the same, since the same cases are listed
  tally_is : (cs : Calls) → tally (steps_of g) (cases_of g o) (generic.listed (cases_for g o flow)) (seen 8 cs) ≡ steps g o cs
  tally_is cs = ap (λ (f : ℕ → Bool). tally (steps_of g) (cases_of g o) f (seen 8 cs)) (listed_is g o flow)

  number_is : (t : ℕ) → t ≤ steps_of g * cases_of g o → (kept_after (cases_for g o flow) t).number ≡ t / steps_of g
  unfolding kept_after
  number_is t l =
      by-test (ltb t (steps_of g * cases_of g o))
      (λ e. rw e)
      (λ e.
      let all : t ≡ steps_of g * cases_of g o = omega (arith, ltb-false t (steps_of g * cases_of g o) e) in
      rw (e, all) (sym (mul-div_cancel_left (cases_of g o) some_steps)))

  module _ (cs : Calls) (ch : Chain sweep_stepper (started_sweep g o) cs) where
    from_fresh : whole.Demand3 (swept g o flow accepted) cs
    unfolding swept
    from_fresh = demand3_claims.whole (swept g o flow accepted) cs (rw fresh_is at ch)

    in_frame : last (started_sweep g o) cs ≡ sweep_with g o flow (kept_after (cases_for g o flow) (tally (steps_of g) (cases_of g o) (generic.listed (cases_for g o flow)) (seen 8 cs)))
    unfolding swept
    in_frame = rw fresh_is from_fresh.kept

    kept : last (started_sweep g o) cs ≡ sweep_after g o flow (steps g o cs)
    kept = in_frame ∙ kept_is g o flow _ ∙ ap (sweep_after g o flow) (tally_is cs)

  -- a call after such a list
  module _ (cs : Calls) (ch : Chain sweep_stepper (started_sweep g o) cs) (c : Called ℕ Sweep) (made : Made sweep_stepper (last (started_sweep g o) cs) c) where
    of_call : OfCall g o cs c
    unfolding swept
    of_call =
        let d = from_fresh cs ch in
        let made' = rw fresh_is at made in
        record {
          not_refused = d.never_refused c made';
          kept_after_lem = sym (last_and (started_sweep g o) cs c) ∙ kept (and cs c) (chain_and sweep_stepper (started_sweep g o) cs c ch made);
          finished_iff = rw (tally_is (and cs c)) at (d.finished_iff c made');
          all_out = λ e. d.all_out c made' e ∙ ap joined (listing_is g o flow (cases_of g o));
          progress = rw (tally_is cs) at (d.progress c made');
          within_allowance = d.within_allowance c made';
          within_memory = d.within_memory c made';
          past_unchanged = d.past_unchanged c made';
        }

  module _ (cs : Calls) (ch : Chain sweep_stepper (started_sweep g o) cs) where
    whole_list : Demand3 g o cs
    unfolding swept
    whole_list =
        let d = from_fresh cs ch in
        let t = tally_is cs in
        let closed-rows = d.rows_of_closed ∙ ap joined (listing_is g o flow _) in
        let number = number_is _ d.tally_ends in
        record {
          rows_of_closed = rw t at closed-rows;
          first_rows = d.first_rows ∙ ap (λ (l : List (List ℕ)). take (length (handed 8 cs)) (joined l)) (listing_is g o flow (cases_of g o));
          tally_ends = rw t at d.tally_ends;
          steps_sum = d.steps_sum ∙ t;
          steps_of_cases = d.steps_of_cases ∙ rw (in_frame cs ch, number);
          closed_are = ap (λ (s : Sweep). s.case_number) (in_frame cs ch) ∙ number ∙ ap (λ (n : ℕ). n / steps_of g) t;
          kept = kept cs ch;
          each_call = λ before after c e.
              let s = chain_split sweep_stepper (started_sweep g o) before after c (rw e at ch) in
              of_call before s.0 c s.1;
        }

pub sweep_claims : SweepClaims
sweep_claims = record { demand3 = λ g o z cs ch. whole_list g o z cs ch }
