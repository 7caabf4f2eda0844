-- The claims of specs/Claims. Assumes nothing.
use Prim.Native.Nat.{ℕ, ◌*◌, ◌/◌, ◌%◌, ◌≤◌, ◌<◌}
use native.Mathlib.Nat.{mod-lt, div-lt_iff_lt-mul}
use native.Mathlib.Omega.{arith}
use mathlib.Core.Logic.{◌⊎◌, inl, inr, ⊎_elim}
use mathlib.Core.Path.{◌≡◌, refl, ap}
use mathlib.Core.Bool.{Bool, true, false, not, ◌&&◌}
use lib.IntN.{pos}
use lib.ListN.{length, length-take}
use lib.Ieee.{binary64, of_int, of_bits, round, div, le}
use lib.Dec.{leb}
use borrow.Author.Tests.{leb-true, le-leb}
use Rattle.lists.specs.Scans.{every}
use Rattle.lists.specs.Scans as scan
use Rattle.lists.proofs.Scanning.{left, right, passed, some_found}
use Rattle.lists.proofs.Counting.{by-test, contrary}
use Rattle.float64.specs.Arithmetic.{◌⊘◌}
use Rattle.ranges.specs.Ranges as range
use Rattle.ranges.specs.Ranges.{real_in, whole_in}
use Rattle.grid.specs.Simulator.{cables_of}
use Rattle.grid.specs.declared.parts.DcFaultEvent.{DcFaultEvent}
use Rattle.grid.specs.declared.parts.SweepOrder.{SweepOrder}
use Rattle.grid.specs.declared.simulator.DcSwitchingSimulator.{DcSwitchingSimulator}
use Rattle.timing.specs.Steps.{steps_of}
use Rattle.part_checks.specs.PartChecks.{fault_ok, order_ok}
use Rattle.rules.specs.Studies.{broken, fault_order, fault_refusal, sweep_refusal}
use Rattle.rule_claims.proofs.Claims.{refusal_claims}
use Rattle.rule_claims.proofs.Sizes.{size_claims}
use Rattle.fault_plan.specs.Fault.{fault_after}
use Rattle.fault_runs.specs.FaultRuns.{fault_results}
use Rattle.fault_cases.specs.declared.cases.CasePlace.{CasePlace}
use Rattle.fault_cases.specs.Cases.{types, tenths_of, cases_of, place_of, ten, fault_in, fault_of}
use Rattle.case_listing.specs.Listing.{outcome_after}
use Rattle.case_listing.specs.Claims.{Precedes, Tried, number_at, Shares, CaseOrderClaims}
use Rattle.fault_cases.proofs.Numbers.{tenths_few, tenth_few}
use Rattle.case_listing.proofs.Places.{larger, thirds, number_back, number_falls, number_below}

not_not : (b : Bool) → not (not b) ≡ true → b ≡ true
not_not true h = refl
not_not false h = h

-- ---- places

module _ (o : SweepOrder) where
  some : 0 < tenths_of o
  some = omega (arith, (tenths_few o).0)

  in_order : (j k : ℕ) → j < k → Precedes (place_of o j) (place_of o k)
  in_order j k h =
      rw (thirds j (tenths_of o), thirds k (tenths_of o))
      (⊎_elim
      (λ (l : j / tenths_of o < k / tenths_of o). ⊎_elim inl (λ e. inr (e.0, inl e.1)) (larger 3 (omega arith) (j / tenths_of o) (k / tenths_of o) l))
      (λ e. inr (ap (λ (q : ℕ). q / 3) e.0, inr (ap (λ (q : ℕ). q % 3) e.0, omega (arith, e.1))))
      (larger (tenths_of o) some j k h))

  once : (k : ℕ) → number_at o (place_of o k) ≡ k
  once = number_back (tenths_of o) o.low_tenth some

  module _ (g : DcSwitchingSimulator) where
    tried : (k : ℕ) → k < cases_of g o → Tried g o (place_of o k)
    tried k h =
        record {
          cable = (div-lt_iff_lt-mul {k = types * tenths_of o} {x = k} {y = length (cables_of g)} (omega (arith, some))).1 h;
          type = mod-lt (k / tenths_of o) (omega arith);
          low = omega arith;
          high = omega (arith, mod-lt k {m = tenths_of o} some);
        }

    found : (p : CasePlace) → Tried g o p → (number_at o p < cases_of g o) × (place_of o (number_at o p) ≡ p)
    found p t =
        let e = number_falls (tenths_of o) o.low_tenth some p.cable p.fault_type p.tenth t.type t.low t.high in (
          number_below (tenths_of o) o.low_tenth some p.cable p.fault_type p.tenth t.type t.low t.high (length (cables_of g)) t.cable,
          rw (e.0, e.1, e.2),
        )

-- ---- accepted faults

-- a tenth is a part of the cable
abbrev inside : ℕ → Bool
inside z = real_in range.fault_fraction (of_int binary64 (pos z) ⊘ ten)

none_outside : scan.some 11 (λ z. not (inside z)) ≡ false
unfolding real_in of_int of_bits round div le
none_outside = refl

part : (z : ℕ) → z ≤ 10 → inside z ≡ true
part z h = by-test (inside z) (λ e. e) (λ e. contrary (some_found (λ k. not (inside k)) 11 z (omega arith) (rw e)) none_outside)

module _ (g : DcSwitchingSimulator) (o : SweepOrder) (z : sweep_refusal g o ≡ 0) where
  rules : every (λ j. not (broken g (not (order_ok o)) j)) fault_order ≡ true
  rules = (refusal_claims.sweep g o).accepted.0 z

  order_ok_lem : order_ok o ≡ true
  unfolding broken
  order_ok_lem = not_not (order_ok o) (passed (λ j. not (broken g (not (order_ok o)) j)) 0 fault_order 8 refl rules)

  fault_ok_lem : (k : ℕ) → k < cases_of g o → fault_ok (fault_of o k) ≡ true
  unfolding fault_ok order_ok fault_in whole_in
  fault_ok_lem k b =
      let resistance = real_in range.fault_resistance o.fault_resistance in
      let inception = real_in range.inception_time o.inception_time_ms in
      let low = leb 0 o.low_tenth && leb o.low_tenth 10 in
      let ascending = leb o.low_tenth o.high_tenth in
      let high = leb 0 o.high_tenth && leb o.high_tenth 10 in
      let four : (resistance && inception && low && ascending) ≡ true = left _ high order_ok_lem in
      let two : (resistance && inception) ≡ true = left _ low (left _ ascending four) in
      let l = leb-true o.low_tenth o.high_tenth (right (resistance && inception && low) ascending four) in
      let h = leb-true o.high_tenth 10 (right (leb 0 o.high_tenth) (leb o.high_tenth 10) (right (resistance && inception && low && ascending) high order_ok_lem)) in
      let p = place_of o k in
      let cable : p.cable ≤ 65535 = omega (arith, (tried o g k b).cable, length-take g.n_cables g.cables, (size_claims.sweep g o z).cables) in
      rw (left resistance inception two, right resistance inception two, part p.tenth (tenth_few o k l h), le-leb 0 p.cable (omega arith), le-leb p.cable 65535 cable)

  accepted_fault : (k : ℕ) → k < cases_of g o → fault_refusal g (fault_of o k) ≡ 0
  accepted_fault k h = (refusal_claims.fault g (fault_of o k)).accepted.1 (rw (fault_ok_lem k h) (rw order_ok_lem at rules))

-- ---- final figures

final : (g : DcSwitchingSimulator) (f : DcFaultEvent) → Shares (outcome_after g f (steps_of g)) (fault_results g (fault_after g f (steps_of g)))
unfolding outcome_after
final g f = record { peak = refl; energy = refl; cleared = refl }

pub case_order_claims : CaseOrderClaims
case_order_claims =
    record {
      in_order = in_order;
      tried = λ g o. tried o g;
      found = λ g o. found o g;
      once = once;
      accepted_fault = accepted_fault;
      final_figures = λ g o k. final g (fault_of o k);
    }
