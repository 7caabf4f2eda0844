-- What a call takes for a case that it closes is what all steps of the case lead to. Assumes nothing.
use Prim.Native.Nat.{ℕ, ◌-◌}
use native.Mathlib.Omega.{arith}
use mathlib.Core.Path.{◌≡◌, refl, sym, ap, ◌∙◌}
use mathlib.Core.Bool.{Bool, true, false, not, ◌&&◌}
use lib.Dec.{eqb, leb}
use lib.ListN.{get_or}
use borrow.Author.Tests.{eqb-true, leb-true, lt-ltb}
use mathlib.Core.List.{List}
use Rattle.std.specs.Prelude.{Option, Some, None}
use Rattle.lists.specs.Tables.{tab, blank, padded}
use Rattle.lists.proofs.Counting.{by-test}
use Rattle.lists.proofs.Scanning.{left, right}
use Rattle.lists.proofs.Fills.{upto, upto_padded, tab_same, get_d_tab}
use Rattle.grid.specs.declared.parts.DcFaultType.{DcFaultType}
use Rattle.grid.specs.declared.parts.DcFaultType.TheVariants.{PoleToGround, PoleToPole, ConverterInternal}
use Rattle.grid.specs.declared.parts.SweepOrder.{SweepOrder}
use Rattle.grid.specs.declared.simulator.DcSwitchingSimulator.{DcSwitchingSimulator}
use Rattle.timing.specs.Steps.{steps_of}
use Rattle.timing.proofs.Claims.{step_claims}
use Rattle.rules.specs.Studies.{sweep_refusal}
use Rattle.rule_claims.proofs.Claims.{accepted_claims}
use Rattle.rule_claims.proofs.Sizes.{size_claims}
use Rattle.network.specs.Network.{drain_of}
use Rattle.fault_circuit.specs.Parameters.{parameters_at}
use Rattle.fault_circuit.specs.Circuit.{circuit_at}
use Rattle.fault_plan.specs.declared.plan.FaultPlan.{FaultPlan}
use Rattle.fault_plan.specs.Fault.{before_loop}
use Rattle.fault_plan.specs.Plans.{constants_of, plan_of}
use Rattle.fault_cases.specs.declared.cases.CasePlace.{CasePlace}
use Rattle.fault_cases.specs.Cases.{place_of, fault_type, fault_in, fault_of}
use Rattle.case_steps.specs.declared.open_case.OpenCase.{OpenCase}
use Rattle.case_steps.specs.OpenCases.{start_case, outcome_in, case_from}
use Rattle.case_steps.specs.Plans.{plan_case_from}
use Rattle.case_claims.proofs.Claims.{case_claims}
use Rattle.case_ends.specs.declared.ends.SiteEnds.{SiteEnds}
use Rattle.case_ends.specs.Ends.{window_by, end_by, of_type, site_of}
use Rattle.case_ends.proofs.Claims.{end_claims}
use Rattle.sweep_cases.specs.declared.cases.Common.{Common}
use Rattle.sweep_cases.specs.Plans.{window_for, common_of, plan_at, plan_for}
use Rattle.closed_cases.specs.declared.cable.CableEnds.{CableEnds}
use Rattle.closed_cases.specs.Cables.{window_in, end_for, blank_site, tried, site_at, cable_of, in_site, whole_cable, held_for, closed_by}

-- ---- for the code

abbrev pub cable_with : (cable : ℕ) → List SiteEnds → CableEnds
cable_with cable sites = record { cable = cable; sites = sites }

pub all_sites : (f : ℕ → SiteEnds) → upto 11 f (blank 11 blank_site) ≡ tab 11 f
unfolding padded
all_sites f = upto_padded 11 11 f blank_site (omega arith) ∙ tab_same 11 _ f (λ k l. rw (lt-ltb k 11 l))

module _ (g : DcSwitchingSimulator) (o : SweepOrder) where
  abbrev x : Common
  x = common_of g o true

  -- what is held is what the cable's cases lead to
  abbrev pub Holding : Option CableEnds → Type 0
  Holding None = Unit {0}
  Holding (Some ends) = ends ≡ cable_of x ends.cable

  pub still_holding : (ends : Option CableEnds) (k allowed room : ℕ) → Holding ends → Holding (held_for x ends k allowed room)
  still_holding ends k allowed room h =
      by-test (whole_cable x.order (place_of x.order k) x.n_steps allowed room)
      (λ e. rw e refl)
      (λ e. rw e h)

  -- ---- a case from what is kept of it

  flipped : (b : Bool) → not b ≡ true → b ≡ false
  flipped true e = sym e
  flipped false e = refl

  -- the steps in which a fault lasts are those of its plan
  window_is : (place : CasePlace) (made : ℕ) (active : Bool) → window_in x.window (plan_at x place).constants x.n_steps made active ≡ window_by (plan_at x place) active made x.n_steps
  unfolding common_of window_for constants_of fault_in circuit_at
  window_is place made active =
      by-test (eqb made 0 && not active)
      (λ e.
      let none = eqb-true made 0 (left (eqb made 0) (not active) e) in
      let waits = flipped active (right (eqb made 0) (not active) e) in
      rw (none, waits))
      (λ e. rw e)

  end_is : (place : CasePlace) (made : ℕ) (c : OpenCase) → end_for x place made c ≡ outcome_in (plan_case_from (plan_at x place) made c (x.n_steps - made))
  end_is place made c = rw (window_is place made c.variables.fault_active) (end_claims.all_steps (plan_at x place) made x.n_steps c)

  -- ---- a case of a cable that is held

  type_is : (cable type tenth : ℕ) → of_type (plan_at x (record { cable = cable; fault_type = 0; tenth = tenth })) (fault_type type) ≡ plan_at x (record { cable = cable; fault_type = type; tenth = tenth })
  unfolding constants_of fault_in circuit_at drain_of parameters_at
  type_is cable type tenth = refl

  in_site_is : (p : FaultPlan) (c : OpenCase) (type : DcFaultType) → in_site (site_of p x.window c) type ≡ end_by (of_type p type) 0 x.window c
  unfolding site_of
  in_site_is p c PoleToGround = refl
  in_site_is p c PoleToPole = refl
  in_site_is p c ConverterInternal = refl

  -- of a type at a tenth that is tried
  held_is : (cable type tenth : ℕ) → tried o tenth ≡ true → in_site (site_at x cable tenth) (fault_type type) ≡ end_for x (record { cable = cable; fault_type = type; tenth = tenth }) 0 (start_case g)
  unfolding site_at common_of before_loop
  held_is cable type tenth e =
      rw e
      (in_site_is (plan_at x (record { cable = cable; fault_type = 0; tenth = tenth })) (start_case g) (fault_type type)
      ∙ ap (λ (p : FaultPlan). end_by p 0 x.window (start_case g)) (type_is cable type tenth))

  -- ---- what a call takes

  module _ (k made : ℕ) (c : OpenCase) (fresh : Bool) (f : fresh ≡ true → (made ≡ 0) × (c ≡ start_case g)) where
    abbrev place : CasePlace
    place = place_of o k

    looked_up_lem : (ends : CableEnds) → ends ≡ cable_of x ends.cable → (fresh && eqb ends.cable place.cable && tried o place.tenth) ≡ true
        → in_site (get_or ends.sites place.tenth blank_site) (fault_type place.fault_type) ≡ end_for x place made c
    looked_up_lem ends h e =
        let a = left (fresh && eqb ends.cable place.cable) (tried o place.tenth) e in
        let in_order = right (fresh && eqb ends.cable place.cable) (tried o place.tenth) e in
        let same = eqb-true ends.cable place.cable (right fresh (eqb ends.cable place.cable) a) in
        let is-fresh = f (left fresh (eqb ends.cable place.cable) a) in
        let few = leb-true place.tenth 10 (right (leb o.low_tenth place.tenth && leb place.tenth o.high_tenth) (leb place.tenth 10) in_order) in
        let sites : ends.sites ≡ tab 11 (site_at x place.cable) = ap (λ (y : CableEnds). y.sites) h ∙ ap (λ (n : ℕ). tab 11 (site_at x n)) same in
        rw (sites, is-fresh.0, is-fresh.1)
        (ap (λ (y : SiteEnds). in_site y (fault_type place.fault_type)) (get_d_tab 11 (site_at x place.cable) blank_site place.tenth (omega arith))
        ∙ held_is place.cable place.fault_type place.tenth in_order)

    taken : (ends : Option CableEnds) → Holding ends → closed_by x ends fresh k made c ≡ end_for x place made c
    unfolding closed_by common_of
    taken None h = refl
    taken (Some ends) h =
        by-test (fresh && eqb ends.cable place.cable && tried o place.tenth)
        (λ e. rw e (looked_up_lem ends h e))
        (λ e. rw e)

  module _ (accepted : sweep_refusal g o ≡ 0) where
    n_is : x.n_steps ≡ steps_of g
    unfolding common_of
    n_is = step_claims.counted (steps_of g) (accepted_claims.sweep g o accepted)

    by_plan : (k first : ℕ) (c : OpenCase) (n : ℕ) → plan_case_from (plan_for x k) first c n ≡ case_from g (fault_of o k) first c n
    unfolding plan_of common_of
    by_plan k first c n = let z = size_claims.sweep g o accepted in case_claims.by_plan g (fault_of o k) z.stations z.cables first c n

    pub closed_is : (k made : ℕ) (c : OpenCase) (fresh : Bool) (ends : Option CableEnds) → Holding ends → (fresh ≡ true → (made ≡ 0) × (c ≡ start_case g))
        → closed_by x ends fresh k made c ≡ outcome_in (case_from g (fault_of o k) made c (steps_of g - made))
    unfolding common_of
    closed_is k made c fresh ends h f =
        taken k made c fresh f ends h ∙ end_is (place_of o k) made c ∙ rw (n_is) (ap outcome_in (by_plan k made c (steps_of g - made)))
