-- What document 01 says of refusals in words, and what a reader expects beside the definitions. The proofs are in proofs/Claims.antt.
use Rattle.std.specs.Prelude.{◌≡◌, ◌↔◌, Bool, true, false, not, cond, List, ◌∷◌, ◌++◌, ℕ, ◌≤◌, ◌<◌, length, Result}
use Rattle.std.specs.Float.Ieee.{le}
use Rattle.lists.specs.Scans.{every}
use Rattle.grid.specs.Simulator.{breakers_of}
use Rattle.timing.specs.Steps.{steps_of}
use Rattle.breaker_times.specs.Breakers.{time_of, fastest_of}
use Rattle.timing.specs.Claims.{Steps}
use Rattle.breaker_times.specs.Claims.{HasTime}
use Rattle.part_checks.specs.PartChecks.{station_ok, fault_ok, order_ok}
use Rattle.rule_tests.specs.Rules.{breaker_outside}
use Rattle.rules.specs.Studies.{order, broken, start_broken, start_refusal, flow_order, detection_order, switching_order, fault_order, flow_refusal, detection_refusal, switching_refusal, fault_refusal, sweep_refusal, point_refusal, number_of}
use Rattle.grid.specs.declared.parts.ConverterStation.{ConverterStation}
use Rattle.grid.specs.declared.parts.DcFaultEvent.{DcFaultEvent}
use Rattle.grid.specs.declared.parts.SweepOrder.{SweepOrder}
use Rattle.grid.specs.declared.simulator.DcSwitchingSimulator.{DcSwitchingSimulator}
use Rattle.rules.specs.declared.studies.Refusal.{Refusal}

-- "the first that applies is returned": a number is returned exactly when its rule is broken and none before it in the order is, and 0 exactly when none is
pub record Decides (answer : ℕ) (breaks : ℕ → Bool) (order : List ℕ) : Type 0 where
  pub refused : (before after : List ℕ) (k : ℕ) → order ≡ before ++ (k ∷ after) → (answer ≡ k) ↔ ((breaks k ≡ true) × (every (λ j. not (breaks j)) before ≡ true))
  pub accepted : (answer ≡ 0) ↔ (every (λ j. not (breaks j)) order ≡ true)

pub record RefusalClaims : Type 0 where
  pub flow : (g : DcSwitchingSimulator) → Decides (flow_refusal g) (broken g false) flow_order
  pub detection : (g : DcSwitchingSimulator) → Decides (detection_refusal g) (broken g false) detection_order
  pub switching : (g : DcSwitchingSimulator) → Decides (switching_refusal g) (broken g false) switching_order
  pub fault : (g : DcSwitchingSimulator) (f : DcFaultEvent) → Decides (fault_refusal g f) (broken g (not (fault_ok f))) fault_order
  pub sweep : (g : DcSwitchingSimulator) (o : SweepOrder) → Decides (sweep_refusal g o) (broken g (not (order_ok o))) fault_order
  pub start : (g : DcSwitchingSimulator) (o : SweepOrder) (not_converged : Bool) → Decides (start_refusal g o not_converged) (start_broken g o not_converged) order
  -- 10 comes last: what a sweep's other rules refuse is refused by them, and what they accept by 10 alone
  pub start_earlier : (g : DcSwitchingSimulator) (o : SweepOrder) (not_converged : Bool) → (sweep_refusal g o ≡ 0 → ⊥) → start_refusal g o not_converged ≡ sweep_refusal g o
  pub start_last : (g : DcSwitchingSimulator) (o : SweepOrder) (not_converged : Bool) → sweep_refusal g o ≡ 0 → start_refusal g o not_converged ≡ cond not_converged 10 0
  pub point_refused : (s : ConverterStation) → (point_refusal s ≡ 6) ↔ (station_ok s ≡ false)
  pub point_accepted : (s : ConverterStation) → (point_refusal s ≡ 0) ↔ (station_ok s ≡ true)
  -- an answer is known by its number
  pub known : (v w : Result (Unit {0}) Refusal) → number_of v ≡ number_of w → v ≡ w

-- what is accepted has from 1 to 1,000,000 steps
pub record AcceptedClaims : Type 0 where
  pub switching : (g : DcSwitchingSimulator) → switching_refusal g ≡ 0 → Steps (steps_of g)
  pub fault : (g : DcSwitchingSimulator) (f : DcFaultEvent) → fault_refusal g f ≡ 0 → Steps (steps_of g)
  pub sweep : (g : DcSwitchingSimulator) (o : SweepOrder) → sweep_refusal g o ≡ 0 → Steps (steps_of g)

-- what is accepted has from 1 to 32 stations, no more than 64 cables, and no more than 32 breakers
pub record Sizes (g : DcSwitchingSimulator) : Type 0 where
  pub some_station : 0 < g.n_stations
  pub stations : g.n_stations ≤ 32
  pub cables : g.n_cables ≤ 64
  pub breakers : g.n_breakers ≤ 32

pub record SizeClaims : Type 0 where
  pub flow : (g : DcSwitchingSimulator) → flow_refusal g ≡ 0 → Sizes g
  pub detection : (g : DcSwitchingSimulator) → detection_refusal g ≡ 0 → Sizes g
  pub switching : (g : DcSwitchingSimulator) → switching_refusal g ≡ 0 → Sizes g
  pub fault : (g : DcSwitchingSimulator) (f : DcFaultEvent) → fault_refusal g f ≡ 0 → Sizes g
  pub sweep : (g : DcSwitchingSimulator) (o : SweepOrder) → sweep_refusal g o ≡ 0 → Sizes g

-- "Fastest of all", where the breakers are accepted: one of them has that time, and none is faster
pub record FastestClaims : Type 0 where
  pub none_faster : (g : DcSwitchingSimulator) → breaker_outside g ≡ false → every (λ b. le (fastest_of g) (time_of b)) (breakers_of g) ≡ true
  pub one_of_them : (g : DcSwitchingSimulator) → breaker_outside g ≡ false → 0 < length (breakers_of g) → HasTime (breakers_of g) (fastest_of g)
