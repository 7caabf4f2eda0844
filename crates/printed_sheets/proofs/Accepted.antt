-- No rule refuses the lines of an accepted grid and order. Assumes nothing.
use Rattle.std.proofs.Common.{Option, Some}
use Prim.Native.Nat.{ℕ, ◌+◌}
use mathlib.Core.Path.{◌≡◌, refl, ◌∙◌, ap}
use mathlib.Core.Bool.{Bool, true, false, not, ◌&&◌, ◌||◌, cond}
use mathlib.Core.List.{List, [], ◌∷◌, ◌++◌, map}
use lib.Dec.{eqb, ltb}
use lib.ListN.{get_or}
use lib.Ieee.{binary64, div}
use borrow.Author.Tests.{not-true, not-false}
use Rattle.lists.specs.Scans.{every}
use Rattle.lists.proofs.Scanning.{left, right, every_of, passed}
use Rattle.ranges.specs.Ranges as range
use Rattle.ranges.specs.Ranges.{real_in}
use Rattle.grid.specs.Simulator.{stations_of, cables_of, breakers_of, least_time_step, least_duration}
use Rattle.float64.specs.Constants.{kilo}
use Rattle.float64.specs.Choice.{max_of}
use Rattle.grid.specs.declared.parts.ConverterStation.{ConverterStation}
use Rattle.grid.specs.declared.parts.DcCable.{DcCable}
use Rattle.grid.specs.declared.parts.DcBreaker.{DcBreaker}
use Rattle.grid.specs.declared.parts.SweepOrder.{SweepOrder}
use Rattle.grid.specs.declared.simulator.DcSwitchingSimulator.{DcSwitchingSimulator}
use Rattle.part_checks.specs.PartChecks.{station_ok, cable_ok, breaker_ok, order_ok}
use Rattle.rules.specs.Studies.{broken, first, fault_order, sweep_refusal}
use Rattle.rule_tests.specs.Rules.{too_many_parts, time_outside, too_many_steps, station_outside, cable_outside, breaker_outside}
use Rattle.timing.specs.Steps.{steps_of_quotient, steps_of, most_steps}
use Rattle.rule_claims.proofs.Claims.{refusal_claims}
use Rattle.rule_claims.proofs.Deciding.{decides}
use Rattle.sheet_lines.specs.declared.line.SheetLine.{SheetLine}
use Rattle.sheet_lines.specs.declared.line.SheetLine.TheVariants.{Times, Order, Cable}
use Rattle.whole_sheets.specs.Sheets.{none, form_refusal, order_in, grid_in, bad_station, bad_cable, bad_breaker, first_bad, sheet_broken, shown_at, refusal_of, answered}
use Rattle.printed_sheets.specs.Claims.{SameGrid}
use Rattle.printed_sheets.proofs.Read.{as_cable, station_said, breaker_said, part_lines, sheet_lines}

-- ---- what an accepted grid and order have

module _ (g : DcSwitchingSimulator) (o : SweepOrder) (h : sweep_refusal g o ≡ 0) where
  pub unbroken : every (λ k. not (broken g (not (order_ok o)) k)) fault_order ≡ true
  unbroken = (refusal_claims.sweep g o).accepted.0 h

  -- the rule at a place of the order
  rule_at : (i : ℕ) → not (broken g (not (order_ok o)) (get_or fault_order i 0)) ≡ true
  unfolding broken
  rule_at i = passed (λ k. not (broken g (not (order_ok o)) k)) 0 fault_order i refl unbroken

  pub stations_ok : every station_ok (stations_of g) ≡ true
  unfolding broken station_outside
  stations_ok = not-false (every station_ok (stations_of g)) (not-true (not (every station_ok (stations_of g))) (rule_at 5))

  pub cables_ok : every cable_ok (cables_of g) ≡ true
  unfolding broken cable_outside
  cables_ok = not-false (every cable_ok (cables_of g)) (not-true (not (every cable_ok (cables_of g))) (rule_at 6))

  pub breakers_ok : every breaker_ok (breakers_of g) ≡ true
  unfolding broken breaker_outside
  breakers_ok = not-false (every breaker_ok (breakers_of g)) (not-true (not (every breaker_ok (breakers_of g))) (rule_at 7))

  pub order_ok_lem : order_ok o ≡ true
  unfolding broken
  order_ok_lem = not-false (order_ok o) (not-true (not (order_ok o)) (rule_at 8))

-- ---- no line is bad

none_bad : {A : Type 0} (bad : Option SheetLine → Bool) (line : A → Option SheetLine) (ok : A → Bool) → ((x : A) → ok x ≡ true → bad (line x) ≡ false) → (xs : List A) (rest : List (Option SheetLine)) → every ok xs ≡ true
    → ((k : ℕ) → first_bad bad k rest ≡ 0) → (k : ℕ) → first_bad bad k (map line xs ++ rest) ≡ 0
none_bad bad line ok f [] rest h more k = more k
none_bad bad line ok f (x ∷ xs) rest h more k =
    ap (λ t. cond t (k + 1) (first_bad bad (k + 1) (map line xs ++ rest))) (f x (left (ok x) (every ok xs) h))
    ∙ none_bad bad line ok f xs rest (right (ok x) (every ok xs) h) more (k + 1)

module _ (bad : Option SheetLine → Bool) (no-times : (g : DcSwitchingSimulator) → bad (Some (Times g.dt_us g.duration_ms)) ≡ false) (no-order : (o : SweepOrder) → bad (Some (Order o)) ≡ false)
    (station : (s : ConverterStation) → station_ok s ≡ true → bad (station_said s) ≡ false) (cable : (c : DcCable) → cable_ok c ≡ true → bad (Some (Cable c)) ≡ false) (breaker : (b : DcBreaker) → breaker_ok b ≡ true → bad (breaker_said b) ≡ false) where
  no_line_bad : (g : DcSwitchingSimulator) (o : SweepOrder) → sweep_refusal g o ≡ 0 → first_bad bad 0 (sheet_lines g o) ≡ 0
  no_line_bad g o h =
      ap (λ t. cond t 1 (first_bad bad 1 (Some (Order o) ∷ part_lines (stations_of g) (cables_of g) (breakers_of g)))) (no-times g)
      ∙ ap (λ t. cond t 2 (first_bad bad 2 (part_lines (stations_of g) (cables_of g) (breakers_of g)))) (no-order o)
      ∙ none_bad bad station_said station_ok station (stations_of g) (map as_cable (cables_of g) ++ (map breaker_said (breakers_of g) ++ [])) (stations_ok g o h)
      (none_bad bad as_cable cable_ok cable (cables_of g) (map breaker_said (breakers_of g) ++ []) (cables_ok g o h) (none_bad bad breaker_said breaker_ok breaker (breakers_of g) [] (breakers_ok g o h) (λ k. refl)))
      2

-- ---- no rule is broken

-- grids with the same times and parts break the same rules
same_rules : (x g : DcSwitchingSimulator) → SameGrid x g → (e : Bool) (k : ℕ) → broken x e k ≡ broken g e k
unfolding broken too_many_parts time_outside too_many_steps steps_of station_outside cable_outside breaker_outside
same_rules x g s e k =
    ap (λ rs. get_or rs k false)
    (λ i.
    false ∷
    eqb (s.n_stations i) 0 ∷
    eqb (s.n_cables i) 0 ∷
    (ltb 32 (s.n_stations i) || ltb 64 (s.n_cables i) || ltb 32 (s.n_breakers i)) ∷
    not (real_in range.time_step (s.dt_us i) && real_in range.duration (s.duration_ms i)) ∷
    ltb most_steps (steps_of_quotient (div binary64 (max_of (s.duration_ms i) least_duration) (div binary64 (max_of (s.dt_us i) least_time_step) kilo))) ∷
    not (every station_ok (s.stations i)) ∷
    not (every cable_ok (s.cables i)) ∷
    not (every breaker_ok (s.breakers i)) ∷
    e ∷
    [])

module _ (ls : List (Option SheetLine)) (g : DcSwitchingSimulator) (o : SweepOrder) (same : SameGrid (grid_in ls) g) (same-order : order_in ls ≡ o)
    (six : first_bad bad_station 0 ls ≡ 0) (seven : first_bad bad_cable 0 ls ≡ 0) (eight : first_bad bad_breaker 0 ls ≡ 0) where
  kept_rule : (k : ℕ) → not (broken g (not (order_ok o)) k) ≡ true → not (sheet_broken ls k) ≡ true
  unfolding sheet_broken
  kept_rule k h = rw (six, seven, eight, same-order, same_rules (grid_in ls) g same (not (order_ok o)) k) (go (eqb k 6) (eqb k 7) (eqb k 8))
    where
      go : (x y z : Bool) → not (cond x false (cond y false (cond z false (broken g (not (order_ok o)) k)))) ≡ true
      go true y z = refl
      go false true z = refl
      go false false true = refl
      go false false false = h

  none-broken : sweep_refusal g o ≡ 0 → first (sheet_broken ls) fault_order ≡ 0
  none-broken h = (decides (sheet_broken ls) fault_order refl refl).accepted.1 (every_of (λ k. not (broken g (not (order_ok o)) k)) (λ k. not (sheet_broken ls k)) kept_rule fault_order (unbroken g o h))

  -- lines in order, of an accepted grid and order, are answered with these
  pub answered_with : sweep_refusal g o ≡ 0 → form_refusal 0 0 ls ≡ none → answered (refusal_of ls) (grid_in ls) (order_in ls) ≡ record { refusal = none; grid = grid_in ls; order = order_in ls }
  unfolding answered refusal_of shown_at
  answered_with h e = rw (e, none-broken h)

pub good_stations : (g : DcSwitchingSimulator) (o : SweepOrder) → sweep_refusal g o ≡ 0 → first_bad bad_station 0 (sheet_lines g o) ≡ 0
good_stations = no_line_bad bad_station (λ g. refl) (λ o. refl) (λ s h. ap not h) (λ c h. refl) (λ b h. refl)

pub good_cables : (g : DcSwitchingSimulator) (o : SweepOrder) → sweep_refusal g o ≡ 0 → first_bad bad_cable 0 (sheet_lines g o) ≡ 0
good_cables = no_line_bad bad_cable (λ g. refl) (λ o. refl) (λ s h. refl) (λ c h. ap not h) (λ b h. refl)

pub good_breakers : (g : DcSwitchingSimulator) (o : SweepOrder) → sweep_refusal g o ≡ 0 → first_bad bad_breaker 0 (sheet_lines g o) ≡ 0
good_breakers = no_line_bad bad_breaker (λ g. refl) (λ o. refl) (λ s h. refl) (λ c h. refl) (λ b h. ap not h)
