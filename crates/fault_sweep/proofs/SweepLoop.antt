-- The loop of a sweep's advance, a case to a turn. Assumes nothing.
use Prim.Native.Nat.{ℕ, suc, ◌+◌, ◌-◌, ◌*◌, ◌/◌, ◌≤◌, ◌<◌, min}
use native.Mathlib.Nat.{div-le_self, sub-zero}
use native.Mathlib.Numerals.{add-one}
use native.Mathlib.Omega.{arith}
use mathlib.Core.Path.{◌≡◌, refl, ap, ◌∙◌}
use mathlib.Core.Bool.{Bool, true, false, not, cond, ◌&&◌, ◌||◌}
use mathlib.Core.Option.{Option, none, some}
use mathlib.Core.List.{List}
use lib.Dec.{eqb, leb, ltb}
use lib.ListN.{length}
use lib.Seq.{sets}
use borrow.Author.Tests.{eq-eqb, ne_eqb, eqb-true, leb-true, ltb-true, leb-false, ltb-false, not-false}
use Rattle.lists.proofs.Counting.{by-test, contrary}
use Rattle.lists.proofs.Scanning.{left, right}
use Rattle.grid.specs.declared.parts.SweepOrder.{SweepOrder}
use Rattle.grid.specs.declared.simulator.DcSwitchingSimulator.{DcSwitchingSimulator}
use Rattle.timing.specs.Steps.{steps_of, most_steps, counted_to}
use Rattle.timing.proofs.Claims.{step_claims}
use Rattle.rule_claims.proofs.Claims.{accepted_claims}
use Rattle.rules.specs.Studies.{sweep_refusal}
use Rattle.rule_claims.proofs.Sizes.{size_claims}
use Rattle.power_flow.specs.declared.flow.DcGridSolution.{DcGridSolution}
use Rattle.portions.specs.declared.Stop.{Stop}
use Rattle.portions.specs.declared.Stop.TheVariants.{Finished}
use Rattle.portions.specs.Stopping.{joined, memory_of, reason_of}
use Rattle.portions.specs.Cases.{to_list, opened}
use Rattle.portions.proofs.Loop.{Going, Came, going_start, came_finished, room_fits}
use Rattle.portions.proofs.Strides as strides
use Rattle.portions.proofs.Strides.{closes_it, leaves_it}
use Rattle.fault_plan.specs.Plans.{plan_of}
use Rattle.fault_cases.specs.Cases.{cases_of, fault_of}
use Rattle.case_listing.specs.Listing.{row_for}
use Rattle.case_steps.specs.declared.open_case.OpenCase.{OpenCase}
use Rattle.case_steps.specs.OpenCases.{start_case, no_case, outcome_in, case_from}
use Rattle.case_steps.specs.Plans.{plan_case_from}
use Rattle.case_claims.proofs.Claims.{case_claims}
use Rattle.case_reasons.specs.declared.reasons.CaseOutcome.{CaseOutcome}
use Rattle.sweep_cases.specs.declared.cases.Common.{Common}
use Rattle.std.specs.Prelude as std
use Rattle.closed_cases.specs.declared.cable.CableEnds.{CableEnds}
use Rattle.closed_cases.specs.Cables.{no_cable, held_for, closed_by}
use Rattle.closed_cases.proofs.AllSteps.{Holding, still_holding, closed_is}
use Rattle.fault_sweep.specs.declared.sweep.Sweep.{Sweep}
use Rattle.fault_sweep.specs.declared.sweep.AdvancedSweep.{AdvancedSweep}
use Rattle.fault_sweep.specs.KeptSweep.{kept_at}
use Rattle.fault_sweep.specs.Advance.{sweep_broken, cases_for, sweep_with, sweep_stepper, advanced_sweep}
use Rattle.sweep_cases.specs.Plans.{common_of, plan_for}
use Rattle.fault_sweep.proofs.Shown.{row_eight, swept, from_is}

back : (a b : ℕ) → a + b - a ≡ b
back a b = omega arith

one_at_most : (x : Option (List ℕ)) → length (to_list x) ≤ 1
one_at_most none = omega arith
one_at_most (some r) = omega arith

-- what the contract says of an answer
pub returned : {s₀ : Sweep} {allowance : ℕ} {lent₀ : List ℕ} {steps out : ℕ} {stop : Stop} {s : Sweep} {lent : List ℕ} → Came sweep_stepper s₀ allowance lent₀ steps out stop s lent
    → (◌≡◌ {A = AdvancedSweep} (record { stop = stop; steps = steps; rows = out; sweep = s }) (advanced_sweep s₀ allowance lent₀)) × (lent ≡ memory_of sweep_stepper s₀ allowance lent₀)
unfolding advanced_sweep
returned c = (λ i. record { stop = c.stop_is i; steps = c.steps_is i; rows = c.count_is i; sweep = c.kept_is i }, c.left_is)

module _ (g : DcSwitchingSimulator) (o : SweepOrder) (flow : DcGridSolution) where
  -- the next case, or none
  opened_is : (k : ℕ) (d : OpenCase) → d ≡ cond (eqb (k + 1) (cases_of g o)) no_case (start_case g) → kept_at g o flow (k + 1) 0 d ≡ sweep_with g o flow (opened (cases_for g o flow) (suc k))
  unfolding opened
  opened_is k d e =
      rw (e, add-one)
      (by-test (eqb (suc k) (cases_of g o))
      (λ t. rw t (ap (λ (n : ℕ). kept_at g o flow n 0 no_case) (eqb-true (suc k) (cases_of g o) t)))
      (λ t. rw t))

  -- what the loop knows: what was worked out before it, and the call so far
  pub record Inside (s₀ : Sweep) (allowance : ℕ) (lent₀ : List ℕ) (n cases space : ℕ) (closing : Bool) (common : Common) (lent : List ℕ) (k made : ℕ) (c : OpenCase) (fresh : Bool) (ends : std.Option CableEnds) (steps out : ℕ) : Type 0 where
    pub accepted : sweep_refusal g o ≡ 0
    pub n_is : n ≡ steps_of g
    pub few : n ≤ most_steps
    pub cases_are : cases ≡ cases_of g o
    pub space_is : space ≡ length lent₀ / 8
    pub common_is : common ≡ common_of g o closing
    pub closing_is : leb (n - made) (allowance - steps) ≡ true → closing ≡ true
    pub going : Going sweep_stepper s₀ allowance lent₀ (kept_at g o flow k made c) lent steps out
    pub number_ok : k ≤ cases
    pub made_ok : made < n
    pub ends_are : Holding g o ends
    pub fresh_is : fresh ≡ true → k < cases → (made ≡ 0) × (c ≡ start_case g)

  module _ {s₀ : Sweep} {allowance : ℕ} {lent₀ : List ℕ} {n cases space : ℕ} {closing : Bool} {common : Common} {lent : List ℕ} {k made : ℕ} {c : OpenCase} {fresh : Bool} {ends : std.Option CableEnds} {steps out : ℕ}
      (i : Inside s₀ allowance lent₀ n cases space closing common lent k made c fresh ends steps out) where
    -- no case is left
    pub finishes : cases ≤ k → Came sweep_stepper s₀ allowance lent₀ steps out Finished (kept_at g o flow cases made c) lent
    finishes l =
        let last : cases ≡ k = omega (arith, i.number_ok) in
        rw last (came_finished sweep_stepper i.going (eq-eqb k (cases_of g o) (omega (arith, i.number_ok, i.cases_are))))

    -- the steps by the plan are the case's
    by_plan : (m : ℕ) (c' : OpenCase) → c' ≡ plan_case_from (plan_for common k) made c m → c' ≡ case_from g (fault_of o k) made c m
    unfolding plan_of common_of
    by_plan m c' e =
        let z = size_claims.sweep g o i.accepted in
        e ∙ ap (λ (x : Common). plan_case_from (plan_for x k) made c m) i.common_is ∙ case_claims.by_plan g (fault_of o k) z.stations z.cables made c m

    module _ (l : k < cases) (b : Bool) (is_b : (leb (n - made) (allowance - steps) && ltb out space) ≡ b) where
      open_here : k < cases_of g o
      open_here = omega (arith, i.cases_are)

      few_made : made < steps_of g
      few_made = omega (arith, i.made_ok, i.n_is)

      test_is : (leb (steps_of g - made) (allowance - steps) && ltb out (length lent₀ / 8)) ≡ b
      test_is = rw (← i.n_is, ← i.space_is) is_b

      -- ---- the call closes the case

      module _ (h : b ≡ true) where
        enough : leb (n - made) (allowance - steps) ≡ true
        enough = left (leb (n - made) (allowance - steps)) (ltb out space) (is_b ∙ h)

        -- its steps are allowed
        pub steps_allowed : steps + (n - made) ≤ allowance
        steps_allowed =
            let t = leb-true (n - made) (allowance - steps) enough in
            omega (arith, i.going.steps_ok)

        -- and there is room for a row
        pub in_space : out < space
        in_space = ltb-true out space (right (leb (n - made) (allowance - steps)) (ltb out space) (is_b ∙ h))

        -- its row has its space
        pub room : 8 * out + 8 ≤ length lent
        room = room_fits sweep_stepper i.going (rw i.space_is at in_space)

        -- and the rows can be counted
        pub more_rows : (x : CaseOutcome) (w : ℕ) → w ≡ length (to_list (row_for g o flow k x)) → out + w ≤ length lent₀
        more_rows x w is-w =
            let r = rw i.space_is at in_space in
            omega (arith, one_at_most (row_for g o flow k x), div-le_self (length lent₀) 8)

        pub closes : (ends' : std.Option CableEnds) → ends' ≡ held_for common ends k (allowance - steps) (space - out)
            → (x : CaseOutcome) → x ≡ closed_by common ends' fresh k made c
            → (w : ℕ) → w ≡ length (to_list (row_for g o flow k x))
            → (lent' : List ℕ) → lent' ≡ sets lent (8 * out) (joined (to_list (row_for g o flow k x)))
            → (d : OpenCase) → d ≡ cond (eqb (k + 1) cases) no_case (start_case g)
            → Inside s₀ allowance lent₀ n cases space closing common lent' (k + 1) 0 d true ends' (steps + (n - made)) (out + w)
        unfolding swept
        closes ends' is-ends x is_x w is-w lent' is-lent d is-d =
            let N = steps_of g in
            let holding = still_holding g o ends k (allowance - steps) (space - out) i.ends_are in
            let whole : common ≡ common_of g o true = i.common_is ∙ ap (common_of g o) (i.closing_is enough) in
            let here : ends' ≡ held_for (common_of g o true) ends k (allowance - steps) (space - out) = is-ends ∙ rw whole in
            let same : x ≡ outcome_in (case_from g (fault_of o k) made c (N - made)) =
            is_x ∙ rw (here, whole) (closed_is g o i.accepted k made c fresh (held_for (common_of g o true) ends k (allowance - steps) (space - out)) holding (λ f. i.fresh_is f l)) in
            let there : strides.case_from (swept g o flow i.accepted) k made c (N - made) ≡ case_from g (fault_of o k) made c (N - made) = from_is g o flow i.accepted (N - made) k made c in
            let gone = closes_it (swept g o flow i.accepted) k made c i.going open_here few_made refl (test_is ∙ h) (λ r q. row_eight g o flow k _ r q) lent' (is-lent ∙ rw (same, there)) in
            record {
              accepted = i.accepted;
              n_is = i.n_is;
              few = i.few;
              cases_are = i.cases_are;
              space_is = i.space_is;
              common_is = i.common_is;
              closing_is = λ _. i.closing_is enough;
              going = rw (opened_is k d (is-d ∙ rw i.cases_are), i.n_is, is-w, same, ← there) gone;
              number_ok = omega arith;
              made_ok = omega (arith, i.made_ok);
              ends_are = rw here holding;
              fresh_is = λ f more. (refl, is-d ∙ rw (ne_eqb (k + 1) cases (λ z. omega arith)));
            }

      -- ---- the call leaves it open

      module _ (h : b ≡ false) (m : ℕ) (is_m : m ≡ min (allowance - steps) (n - made - 1)) where
        pub few_steps : (made + m ≤ most_steps) × (steps + m ≤ allowance)
        few_steps = (omega (arith, i.made_ok, i.few), omega (arith, i.going.steps_ok))

        pub leaves : (c' : OpenCase) → c' ≡ plan_case_from (plan_for common k) made c (made + m - made)
            → Came sweep_stepper s₀ allowance lent₀ (steps + m) out (reason_of false (eqb (steps + m) allowance)) (kept_at g o flow k (made + m) c') lent
        unfolding swept
        leaves c' is_c =
            let short : m ≡ min (allowance - steps) (steps_of g - made - 1) = is_m ∙ rw i.n_is in
            let e : made + m - made ≡ m = back made m in
            let same : c' ≡ case_from g (fault_of o k) made c m = by_plan m c' (is_c ∙ rw e) in
            rw (same, short, ← from_is g o flow i.accepted (min (allowance - steps) (steps_of g - made - 1)) k made c)
            (leaves_it (swept g o flow i.accepted) k made c i.going open_here few_made refl (test_is ∙ h))

neither : (a b : Bool) → (a || b) ≡ false → (a ≡ false) × (b ≡ false)
neither true b h = (h, contrary refl h)
neither false b h = (refl, h)

-- before the loop, of a sweep that is not refused
module _ (s : Sweep) (h : sweep_broken s ≡ false) where
  let_through : (sweep_refusal s.grid s.order ≡ 0) × (s.case_number ≤ cases_of s.grid s.order) × (s.steps_made < steps_of s.grid)
  unfolding sweep_broken
  let_through =
      let r = sweep_refusal s.grid s.order in
      let n = cases_of s.grid s.order in
      let a = (neither (not (eqb r 0) || ltb n s.case_number || leb (steps_of s.grid) s.steps_made) (eqb s.case_number n && not (eqb s.steps_made 0)) h).0 in
      let b = neither (not (eqb r 0) || ltb n s.case_number) (leb (steps_of s.grid) s.steps_made) a in
      let c = neither (not (eqb r 0)) (ltb n s.case_number) b.0 in
      (eqb-true r 0 (not-false (eqb r 0) c.0), ltb-false n s.case_number c.1, leb-false (steps_of s.grid) s.steps_made b.1)

  pub some_left : (n : ℕ) → n ≡ counted_to (steps_of s.grid) → s.steps_made < n
  some_left n is-n = rw (is-n ∙ step_claims.counted (steps_of s.grid) (accepted_claims.sweep s.grid s.order let_through.0)) let_through.2

  pub inside : (allowance : ℕ) (lent₀ : List ℕ) (n cases : ℕ) (closing : Bool) (common : Common) → closing ≡ leb (n - s.steps_made) allowance → n ≡ counted_to (steps_of s.grid) → cases ≡ cases_of s.grid s.order → common ≡ common_of s.grid s.order closing
      → Inside s.grid s.order s.flow s allowance lent₀ n cases (length lent₀ / 8) closing common lent₀ s.case_number s.steps_made s.open_case false no_cable 0 0
  inside allowance lent₀ n cases closing common is-closing is-n are-cases is-common =
      let steps = accepted_claims.sweep s.grid s.order let_through.0 in
      let e : n ≡ steps_of s.grid = is-n ∙ step_claims.counted (steps_of s.grid) steps in
      record {
        accepted = let_through.0;
        n_is = e;
        few = rw e steps.1;
        cases_are = are-cases;
        space_is = refl;
        common_is = is-common;
        closing_is = λ t. is-closing ∙ (rw sub-zero at t);
        going = going_start sweep_stepper s allowance lent₀ h;
        number_ok = rw are-cases let_through.1;
        made_ok = rw e let_through.2;
        ends_are = tt;
        fresh_is = λ h. contrary h refl;
      }
