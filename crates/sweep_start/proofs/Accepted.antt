-- What is accepted of a sweep is accepted of its flow. Assumes nothing.
use Prim.Native.Nat.{ℕ}
use mathlib.Core.Path.{◌≡◌, refl}
use mathlib.Core.Bool.{true, not}
use lib.ListN.{get_or}
use Rattle.lists.proofs.Scanning.{passed}
use Rattle.grid.specs.declared.parts.SweepOrder.{SweepOrder}
use Rattle.grid.specs.declared.simulator.DcSwitchingSimulator.{DcSwitchingSimulator}
use Rattle.part_checks.specs.PartChecks.{order_ok}
use Rattle.rule_tests.specs.Rules.{no_station, no_cable, too_many_parts, station_outside, cable_outside, breaker_outside}
use Rattle.rules.specs.Studies.{broken, fault_order, flow_refusal, sweep_refusal}
use Rattle.rule_claims.proofs.Claims.{refusal_claims}

module _ (g : DcSwitchingSimulator) (o : SweepOrder) (z : sweep_refusal g o ≡ 0) where
  unbroken : (i : ℕ) → not (broken g (not (order_ok o)) (get_or fault_order i 0)) ≡ true
  unfolding broken
  unbroken i = passed (λ k. not (broken g (not (order_ok o)) k)) 0 fault_order i refl ((refusal_claims.sweep g o).accepted.0 z)

  few_parts : not (too_many_parts g) ≡ true
  unfolding broken
  few_parts = unbroken 0

  some_station : not (no_station g) ≡ true
  unfolding broken
  some_station = unbroken 1

  stations : not (station_outside g) ≡ true
  unfolding broken
  stations = unbroken 5

  cables : not (cable_outside g) ≡ true
  unfolding broken
  cables = unbroken 6

  breakers : not (breaker_outside g) ≡ true
  unfolding broken
  breakers = unbroken 7

  pub some_cable : not (no_cable g) ≡ true
  unfolding broken
  some_cable = unbroken 2

  pub flow-accepted : flow_refusal g ≡ 0
  unfolding broken
  flow-accepted = (refusal_claims.flow g).accepted.1 (rw (few_parts, some_station, stations, cables, breakers))
