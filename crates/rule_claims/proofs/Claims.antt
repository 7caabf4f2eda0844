-- The claims of specs/Claims. Assumes nothing.
use Prim.Native.Nat.{ℕ, ◌≤◌}
use native.Mathlib.Omega.{arith}
use Rattle.std.specs.Prelude.{Result, Ok, Err}
use mathlib.Core.Path.{◌≡◌, refl, sym, ◌∙◌}
use mathlib.Core.Logic.{◌↔◌}
use mathlib.Core.Bool.{Bool, true, false, not, cond}
use mathlib.Core.List.{List, [], ◌∷◌, ◌++◌}
use borrow.Author.Tests.{eq-eqb, ne_eqb, ltb-false, not-true, not-false}
use lib.Dec.{eqb, ltb}
use lib.ListN.{get_or}
use Rattle.lists.specs.Scans.{every}
use Rattle.lists.proofs.Counting.{by-test, contrary}
use Rattle.lists.proofs.Scanning.{left, right, passed, every_of}
use Rattle.part_checks.specs.PartChecks.{station_ok, breaker_ok, fault_ok, order_ok}
use Rattle.grid.specs.Simulator.{breakers_of}
use Rattle.timing.specs.Steps.{steps_of, most_steps}
use Rattle.rule_tests.specs.Rules.{too_many_steps, breaker_outside}
use Rattle.rules.specs.Studies.{first, broken, start_broken, start_refusal, switching_order, fault_order, flow_refusal, detection_refusal, switching_refusal, fault_refusal, sweep_refusal, point_refusal, number_of}
use Rattle.rules.proofs.Outcomes.{err_at}
use Rattle.rule_claims.specs.Claims.{RefusalClaims, AcceptedClaims, FastestClaims}
use Rattle.timing.specs.Claims.{Steps}
use Rattle.breaker_times.specs.Claims.{timed}
use Rattle.breaker_times.proofs.Fastest.{breaker_claims}
use Rattle.grid.specs.declared.parts.ConverterStation.{ConverterStation}
use Rattle.grid.specs.declared.parts.SweepOrder.{SweepOrder}
use Rattle.grid.specs.declared.simulator.DcSwitchingSimulator.{DcSwitchingSimulator}
use Rattle.rules.specs.declared.studies.Refusal.{Refusal}
use Rattle.rule_claims.proofs.AcceptedTimes.{accepted-timed}
use Rattle.rule_claims.proofs.Deciding.{decides}

-- ---- refusals

known : (v w : Result (Unit {0}) Refusal) → number_of v ≡ number_of w → v ≡ w
unfolding number_of
known v (Err y) e = err_at v y e
known (Ok x) (Ok y) e = refl
known (Err x) (Ok y) e = sym (err_at (Ok y) x (sym e))

point_six : (s : ConverterStation) → (point_refusal s ≡ 6) ↔ (station_ok s ≡ false)
unfolding point_refusal
point_six s = (
  (λ e. by-test (station_ok s) (λ b. absurd (let q : 0 ≡ 6 = rw b at e in omega arith)) (λ b. b)),
  (λ b. rw b),
)

point_nought : (s : ConverterStation) → (point_refusal s ≡ 0) ↔ (station_ok s ≡ true)
unfolding point_refusal
point_nought s = (
  (λ e. by-test (station_ok s) (λ b. b) (λ b. absurd (let q : 6 ≡ 0 = rw b at e in omega arith))),
  (λ b. rw b),
)

-- the first of an order with one rule more behind it
first_then : (f : ℕ → Bool) (ks : List ℕ) (k : ℕ) → every (λ j. not (eqb j 0)) ks ≡ true → first f (ks ++ (k ∷ [])) ≡ cond (eqb (first f ks) 0) (cond (f k) k 0) (first f ks)
unfolding first
first_then f [] k h = refl
first_then f (j ∷ js) k h =
    by-test (f j)
    (λ e. rw (e, not_nought j (left (not (eqb j 0)) (every (λ i. not (eqb i 0)) js) h)))
    (λ e. rw e (first_then f js k (right (not (eqb j 0)) (every (λ i. not (eqb i 0)) js) h)))
  where
    not_nought : (j : ℕ) → not (eqb j 0) ≡ true → eqb j 0 ≡ false
    not_nought j h = by-test (eqb j 0) (λ e. contrary h (rw e)) (λ e. e)

module _ (g : DcSwitchingSimulator) (o : SweepOrder) (b : Bool) where
  with_ten : start_refusal g o b ≡ cond (eqb (sweep_refusal g o) 0) (cond b 10 0) (sweep_refusal g o)
  unfolding start_refusal sweep_refusal first
  with_ten = first_then (start_broken g o b) fault_order 10 refl

  start_earlier : (sweep_refusal g o ≡ 0 → ⊥) → start_refusal g o b ≡ sweep_refusal g o
  start_earlier h = with_ten ∙ rw (ne_eqb (sweep_refusal g o) 0 h)

  start_last : sweep_refusal g o ≡ 0 → start_refusal g o b ≡ cond b 10 0
  start_last h = with_ten ∙ rw (eq-eqb (sweep_refusal g o) 0 h)

pub refusal_claims : RefusalClaims
unfolding flow_refusal detection_refusal switching_refusal fault_refusal sweep_refusal start_refusal
refusal_claims =
    record {
      flow = λ g. decides (broken g false) _ refl refl;
      detection = λ g. decides (broken g false) _ refl refl;
      switching = λ g. decides (broken g false) _ refl refl;
      fault = λ g f. decides (broken g (not (fault_ok f))) _ refl refl;
      sweep = λ g o. decides (broken g (not (order_ok o))) _ refl refl;
      start = λ g o b. decides (start_broken g o b) _ refl refl;
      start_earlier = start_earlier;
      start_last = start_last;
      point_refused = point_six;
      point_accepted = point_nought;
      known = known;
    }

-- ---- steps

-- an order that has rule 5 accepts no more steps than the limit
few_steps : (g : DcSwitchingSimulator) (e : Bool) → not (broken g e 5) ≡ true → Steps (steps_of g)
unfolding broken too_many_steps steps_of
few_steps g e h = let l : steps_of g ≤ most_steps = ltb-false most_steps (steps_of g) (not-true (ltb most_steps (steps_of g)) h) in (omega arith, l)

-- rule 5 among the rules that are not broken, i its place in the order
fifth : (g : DcSwitchingSimulator) (e : Bool) (order : List ℕ) (i : ℕ) → get_or order i 0 ≡ 5 → every (λ j. not (broken g e j)) order ≡ true → Steps (steps_of g)
unfolding broken
fifth g e order i five p = few_steps g e (rw five at (passed (λ j. not (broken g e j)) 0 order i refl p))

pub accepted_claims : AcceptedClaims
accepted_claims =
    record {
      switching = λ g h. fifth g false switching_order 3 refl ((refusal_claims.switching g).accepted.0 h);
      fault = λ g f h. fifth g (not (fault_ok f)) fault_order 4 refl ((refusal_claims.fault g f).accepted.0 h);
      sweep = λ g o h. fifth g (not (order_ok o)) fault_order 4 refl ((refusal_claims.sweep g o).accepted.0 h);
    }

-- ---- the fastest breaker

all_timed : (g : DcSwitchingSimulator) → breaker_outside g ≡ false → every timed (breakers_of g) ≡ true
unfolding breaker_outside
all_timed g h = every_of breaker_ok timed accepted-timed (breakers_of g) (not-false (every breaker_ok (breakers_of g)) h)

pub fastest_claims : FastestClaims
fastest_claims =
    record {
      none_faster = λ g h. breaker_claims.none_faster g (all_timed g h);
      one_of_them = λ g h. breaker_claims.one_of_them g (all_timed g h);
    }
