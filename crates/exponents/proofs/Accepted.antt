-- What an accepted fault study has: parts in their ranges, and steps whose times lie from 0 to 1,000,000,000 ms. Assumes nothing.
use Prim.Native.Nat.{ℕ, ◌<◌}
use native.Mathlib.Omega.{arith}
use mathlib.Core.Path.{◌≡◌, refl, ap, ◌∙◌}
use mathlib.Core.Bool.{Bool, true, false, not, ◌&&◌}
use borrow.Author.Tests.{not-true, not-false, eqb-false}
use lib.Dec.{lit≤}
use lib.IntN.{pos}
use lib.ListN.{get_or}
use lib.Ieee.{binary64, of_bits, of_int, round, lt, le, eq}
use Rattle.lists.specs.Scans.{every}
use Rattle.lists.proofs.Scanning.{left, right, passed}
use Rattle.float64.specs.Constants.{kilo}
use Rattle.float64.proofs.Choosing.{max_holds}
use Rattle.float64.proofs.Range.{UpTo, from_range, rounded, times, over}
use Rattle.ranges.specs.Ranges as range
use Rattle.ranges.specs.Ranges.{real_in}
use Rattle.grid.specs.Simulator.{least_time_step, stations_of, cables_of}
use Rattle.grid.specs.declared.parts.DcFaultEvent.{DcFaultEvent}
use Rattle.grid.specs.declared.parts.SweepOrder.{SweepOrder}
use Rattle.grid.specs.declared.simulator.DcSwitchingSimulator.{DcSwitchingSimulator}
use Rattle.ranges.proofs.InRange.{in_range, range_in}
use Rattle.timing.specs.Steps.{time_of_step, time_step_ms, steps_of}
use Rattle.timing.specs.Claims.{Steps}
use Rattle.part_checks.specs.PartChecks.{station_ok, cable_ok, fault_ok, order_ok}
use Rattle.rule_tests.specs.Rules.{time_outside, station_outside, cable_outside}
use Rattle.rules.specs.Studies.{broken, fault_order, fault_refusal, sweep_refusal}
use Rattle.rule_claims.specs.Claims.{Sizes}
use Rattle.rule_claims.proofs.Claims.{refusal_claims, accepted_claims}
use Rattle.rule_claims.proofs.Sizes.{size_claims}
use Rattle.exponents.specs.Claims.{is_time, InRanges}

-- g is accepted where no rule of the order is broken; e says whether the event is outside its ranges
module _ (g : DcSwitchingSimulator) (e : Bool) (h : every (λ j. not (broken g e j)) fault_order ≡ true) where
  -- the rule at place i of the order
  kept : (i : ℕ) → broken g e (get_or fault_order i 0) ≡ false
  unfolding broken
  kept i = not-true _ (passed (λ j. not (broken g e j)) 0 fault_order i refl h)

  some_cable : 0 < g.n_cables
  unfolding broken
  some_cable = let n : g.n_cables ≡ 0 → ⊥ = eqb-false g.n_cables 0 (kept 2) in omega (arith, n)

  event_ok : e ≡ false
  unfolding broken
  event_ok = kept 8

  in-ranges
      : Sizes g → Steps (steps_of g) → (f : DcFaultEvent) → real_in range.fault_fraction f.location_fraction ≡ true → real_in range.inception_time f.inception_time_ms ≡ true
      → InRanges g f
  unfolding broken time_outside station_outside cable_outside
  in-ranges sizes steps f fraction inception =
      record {
        some_station = sizes.some_station;
        stations = sizes.stations;
        some_cable = some_cable;
        cables = sizes.cables;
        time_step_lem = left _ (real_in range.duration g.duration_ms) (not-false _ (kept 3));
        few_steps = steps.1;
        stations_ok = not-false (every station_ok (stations_of g)) (kept 5);
        cables_ok = not-false (every cable_ok (cables_of g)) (kept 6);
        fraction = fraction;
        inception = inception;
      }

pub of_fault : (g : DcSwitchingSimulator) (f : DcFaultEvent) → fault_refusal g f ≡ 0 → InRanges g f
unfolding fault_ok
of_fault g f h =
    let rules = (refusal_claims.fault g f).accepted.0 h in
    let resistance = real_in range.fault_resistance f.fault_resistance in
    let fraction = real_in range.fault_fraction f.location_fraction in
    let inception = real_in range.inception_time f.inception_time_ms in
    let three : (resistance && fraction && inception) ≡ true = left _ _ (not-false (fault_ok f) (event_ok g (not (fault_ok f)) rules)) in
    in-ranges g (not (fault_ok f)) rules (size_claims.fault g f h) (accepted_claims.fault g f h) f
    (right resistance fraction (left (resistance && fraction) inception three))
    (right (resistance && fraction) inception three)

pub of_sweep : (g : DcSwitchingSimulator) (o : SweepOrder) (f : DcFaultEvent) → sweep_refusal g o ≡ 0 → real_in range.fault_fraction f.location_fraction ≡ true → f.inception_time_ms ≡ o.inception_time_ms → InRanges g f
unfolding order_ok
of_sweep g o f h fraction same =
    let rules = (refusal_claims.sweep g o).accepted.0 h in
    let resistance = real_in range.fault_resistance o.fault_resistance in
    let inception = real_in range.inception_time o.inception_time_ms in
    let two : (resistance && inception) ≡ true = left _ _ (left _ _ (left _ _ (not-false (order_ok o) (event_ok g (not (order_ok o)) rules)))) in
    in-ranges g (not (order_ok o)) rules (size_claims.sweep g o h) (accepted_claims.sweep g o h) f fraction (ap (real_in range.inception_time) same ∙ right resistance inception two)

module _ (g : DcSwitchingSimulator) (f : DcFaultEvent) (h : InRanges g f) where
  step_ms : UpTo 1000 (time_step_ms g)
  unfolding of_bits of_int round le lt eq
  step_ms =
      over 1000 1000 _ kilo (omega arith) tt (lit≤ tt)
      (max_holds (UpTo 1000000) g.dt_us least_time_step (in_range 1000000 (omega arith) g.dt_us h.time_step_lem) (from_range 1000000 (omega arith) least_time_step tt tt))

  pub step_time : (k : ℕ) → k < steps_of g → is_time (time_of_step g k) ≡ true
  unfolding of_int
  step_time k l =
      let most = h.few_steps in
      range_in 1000000000 (omega arith) (time_of_step g k)
      (times 1000000 1000 (of_int binary64 (pos k)) (time_step_ms g) (omega arith) (rounded 1000000 (omega arith) k 1 (omega arith) (omega arith)) step_ms)
