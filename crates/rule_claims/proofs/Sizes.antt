-- What the rules 3 and 1, first in every order, say of the counts. Assumes nothing.
use Prim.Native.Nat.{ℕ}
use native.Mathlib.Omega.{arith}
use mathlib.Core.Path.{◌≡◌, refl}
use mathlib.Core.Bool.{Bool, true, false, not, ◌&&◌, ◌||◌, true≢false}
use mathlib.Core.List.{List, ◌∷◌}
use borrow.Author.Tests.{ltb-false, eqb-false, not-true}
use lib.Dec.{ltb}
use lib.ListN.{drop}
use Rattle.lists.specs.Scans.{every}
use Rattle.lists.proofs.Scanning.{left, right}
use Rattle.part_checks.specs.PartChecks.{fault_ok, order_ok}
use Rattle.rule_tests.specs.Rules.{too_many_parts}
use Rattle.rules.specs.Studies.{broken, flow_order, detection_order, switching_order, fault_order}
use Rattle.rule_claims.specs.Claims.{Sizes, SizeClaims}
use Rattle.rule_claims.proofs.Claims.{refusal_claims}
use Rattle.grid.specs.declared.simulator.DcSwitchingSimulator.{DcSwitchingSimulator}

neither : (a b : Bool) → (a || b) ≡ false → (a ≡ false) × (b ≡ false)
neither true b h = absurd (true≢false h)
neither false b h = (refl, h)

sizes : (g : DcSwitchingSimulator) (e : Bool) (rest : List ℕ) → every (λ k. not (broken g e k)) (3 ∷ 1 ∷ rest) ≡ true → Sizes g
unfolding broken too_many_parts
sizes g e rest p =
    let after = every (λ k. not (broken g e k)) rest in
    let few : not (broken g e 3) ≡ true = left (not (broken g e 3)) (not (broken g e 1) && after) p in
    let some : not (broken g e 1) ≡ true = left (not (broken g e 1)) after (right (not (broken g e 3)) (not (broken g e 1) && after) p) in
    let parts = neither (ltb 32 g.n_stations || ltb 64 g.n_cables) (ltb 32 g.n_breakers) (not-true (broken g e 3) few) in
    let both = neither (ltb 32 g.n_stations) (ltb 64 g.n_cables) parts.0 in
    let no_none : g.n_stations ≡ 0 → ⊥ = eqb-false g.n_stations 0 (not-true (broken g e 1) some) in
    record {
      some_station = omega (arith, no_none);
      stations = ltb-false 32 g.n_stations both.0;
      cables = ltb-false 64 g.n_cables both.1;
      breakers = ltb-false 32 g.n_breakers parts.1;
    }

pub size_claims : SizeClaims
size_claims =
    record {
      flow = λ g h. sizes g false (drop 2 flow_order) ((refusal_claims.flow g).accepted.0 h);
      detection = λ g h. sizes g false (drop 2 detection_order) ((refusal_claims.detection g).accepted.0 h);
      switching = λ g h. sizes g false (drop 2 switching_order) ((refusal_claims.switching g).accepted.0 h);
      fault = λ g f h. sizes g (not (fault_ok f)) (drop 2 fault_order) ((refusal_claims.fault g f).accepted.0 h);
      sweep = λ g o h. sizes g (not (order_ok o)) (drop 2 fault_order) ((refusal_claims.sweep g o).accepted.0 h);
    }
