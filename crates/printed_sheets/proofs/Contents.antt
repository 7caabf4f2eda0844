-- The order of a printed sheet's lines, and the grid and the order that they make. Assumes nothing.
use Rattle.std.proofs.Common.{Option, Some}
use Prim.Native.Nat.{ℕ, zero, suc, ◌+◌, ◌-◌, ◌≤◌, ◌<◌}
use mathlib.Core.Path.{◌≡◌, refl, sym, ◌∙◌, ap}
use mathlib.Core.Bool.{cond}
use mathlib.Core.List.{List, [], ◌∷◌, ◌++◌, map, append-nil}
use native.Mathlib.Omega.{arith}
use lib.Dec.{eqb}
use lib.ListN.{length, take, drop, replicate, take-append-drop}
use lib.Seq.{take-append-le, take-append-add, take-take, take_all, length-take-le}
use borrow.Author.Tests.{ne_eqb, le-ltb, le-leb}
use Rattle.grid.specs.Simulator.{stations_of, cables_of, breakers_of, blank_station, blank_cable, blank_breaker, new_simulator}
use Rattle.grid.specs.declared.parts.ConverterStation.{ConverterStation}
use Rattle.grid.specs.declared.parts.DcCable.{DcCable}
use Rattle.grid.specs.declared.parts.DcBreaker.{DcBreaker}
use Rattle.grid.specs.declared.parts.SweepOrder.{SweepOrder}
use Rattle.grid.specs.declared.simulator.DcSwitchingSimulator.{DcSwitchingSimulator}
use Rattle.float64.specs.Constants.{nought}
use Rattle.sheet_lines.specs.declared.line.SheetLine.{SheetLine}
use Rattle.sheet_lines.specs.declared.line.SheetLine.TheVariants.{Cable}
use Rattle.line_order.specs.Ordered.{place_of, in_order, line_refusal}
use Rattle.whole_sheets.specs.Sheets.{none, refused, form_refusal, stations_in, cables_in, breakers_in, new_from, order_from, order_in, laid, grid_in}
use Rattle.printed_sheets.specs.Claims.{Made, SameGrid, BlankPast}
use Rattle.printed_sheets.proofs.Read.{as_cable, station_said, breaker_said, part_lines, sheet_lines}

-- ---- the order of the lines

in_place : (k before place : ℕ) → 2 ≤ k → before ≤ place → 2 ≤ place → place < 5 → line_refusal k before place ≡ 0
unfolding line_refusal in_order
in_place k before place a b c d =
    let no : place ≡ 5 → ⊥ = λ e. omega arith in
    rw (ne_eqb place 5 no, le-ltb k 2 a, le-leb 2 place c, le-leb before place b)

-- lines of one place, behind lines of an earlier one
lines_ordered : {A : Type 0} (line : A → Option SheetLine) (place : ℕ) → ((x : A) → place_of (line x) ≡ place) → 2 ≤ place → place < 5 → (xs : List A) (rest : List (Option SheetLine))
    → ((k before : ℕ) → 2 ≤ k → before ≤ place → form_refusal k before rest ≡ none) → (k before : ℕ) → 2 ≤ k → before ≤ place → form_refusal k before (map line xs ++ rest) ≡ none
lines_ordered line place at c d [] rest more k before a b = more k before a b
lines_ordered line place at c d (x ∷ xs) rest more k before a b =
    let e : place_of (line x) ≡ place = at x in
    ap (λ r. cond (eqb r 0) (form_refusal (k + 1) (place_of (line x)) (map line xs ++ rest)) (refused r (k + 1))) (in_place k before (place_of (line x)) a (omega arith) (omega arith) (omega arith))
    ∙ lines_ordered line place at c d xs rest more (k + 1) (place_of (line x)) (omega arith) (omega arith)

parts_ordered : (ss : List ConverterStation) (cs : List DcCable) (bs : List DcBreaker) → form_refusal 2 1 (part_lines ss cs bs) ≡ none
parts_ordered ss cs bs =
    lines_ordered station_said 2 (λ s. refl) (omega arith) (omega arith) ss (map as_cable cs ++ (map breaker_said bs ++ []))
    (λ k before a b. lines_ordered as_cable 3 (λ c. refl) (omega arith) (omega arith) cs (map breaker_said bs ++ [])
    (λ k before a b. lines_ordered breaker_said 4 (λ b. refl) (omega arith) (omega arith) bs [] (λ k before a b. rw (le-ltb k 2 a)) k before a (omega arith)) k before a (omega arith))
    2 1 (omega arith) (omega arith)

pub lines_in_order : (g : DcSwitchingSimulator) (o : SweepOrder) → form_refusal 0 0 (sheet_lines g o) ≡ none
unfolding line_refusal in_order
lines_in_order g o = parts_ordered (stations_of g) (cables_of g) (breakers_of g)

-- ---- what the lines hold

-- lines that a scan of them passes by, and lines of which it keeps the part
passed_by : {A B : Type 0} (scan : List (Option SheetLine) → B) (line : A → Option SheetLine) → ((x : A) (ls : List (Option SheetLine)) → scan (line x ∷ ls) ≡ scan ls) → (xs : List A) (rest : List (Option SheetLine)) → scan (map line xs ++ rest) ≡ scan rest
passed_by scan line h [] rest = refl
passed_by scan line h (x ∷ xs) rest = h x (map line xs ++ rest) ∙ passed_by scan line h xs rest

kept : {A : Type 0} (scan : List (Option SheetLine) → List A) (line : A → Option SheetLine) → ((x : A) (ls : List (Option SheetLine)) → scan (line x ∷ ls) ≡ x ∷ scan ls) → (xs : List A) (rest : List (Option SheetLine)) → scan (map line xs ++ rest) ≡ xs ++ scan rest
kept scan line h [] rest = refl
kept scan line h (x ∷ xs) rest = h x (map line xs ++ rest) ∙ ap (λ ys. x ∷ ys) (kept scan line h xs rest)

module _ (ss : List ConverterStation) (cs : List DcCable) (bs : List DcBreaker) where
  abbrev cable_lines : List (Option SheetLine)
  cable_lines = map as_cable cs ++ (map breaker_said bs ++ [])

  parts_passed : {B : Type 0} (scan : List (Option SheetLine) → B)
      → ((x : ConverterStation) (ls : List (Option SheetLine)) → scan (station_said x ∷ ls) ≡ scan ls)
      → ((x : DcCable) (ls : List (Option SheetLine)) → scan (Some (Cable x) ∷ ls) ≡ scan ls)
      → ((x : DcBreaker) (ls : List (Option SheetLine)) → scan (breaker_said x ∷ ls) ≡ scan ls)
      → scan (part_lines ss cs bs) ≡ scan []
  parts_passed scan a b c = passed_by scan station_said a ss cable_lines ∙ passed_by scan as_cable b cs (map breaker_said bs ++ []) ∙ passed_by scan breaker_said c bs []

  stations_held : stations_in (part_lines ss cs bs) ≡ ss
  stations_held =
      kept stations_in station_said (λ x ls. refl) ss cable_lines
      ∙ ap (λ ys. ss ++ ys) (passed_by stations_in as_cable (λ x ls. refl) cs (map breaker_said bs ++ []) ∙ passed_by stations_in breaker_said (λ x ls. refl) bs [])
      ∙ append-nil ss

  cables_held : cables_in (part_lines ss cs bs) ≡ cs
  cables_held =
      passed_by cables_in station_said (λ x ls. refl) ss cable_lines
      ∙ kept cables_in as_cable (λ x ls. refl) cs (map breaker_said bs ++ [])
      ∙ ap (λ ys. cs ++ ys) (passed_by cables_in breaker_said (λ x ls. refl) bs [])
      ∙ append-nil cs

  breakers_held : breakers_in (part_lines ss cs bs) ≡ bs
  breakers_held =
      passed_by breakers_in station_said (λ x ls. refl) ss cable_lines
      ∙ passed_by breakers_in as_cable (λ x ls. refl) cs (map breaker_said bs ++ [])
      ∙ kept breakers_in breaker_said (λ x ls. refl) bs []
      ∙ append-nil bs

-- what lines hold of a grid
pub record Holds (ls : List (Option SheetLine)) (g : DcSwitchingSimulator) : Type 0 where
  pub new : new_from (new_simulator nought nought) ls ≡ new_simulator g.dt_us g.duration_ms
  pub stations : stations_in ls ≡ stations_of g
  pub cables : cables_in ls ≡ cables_of g
  pub breakers : breakers_in ls ≡ breakers_of g

pub lines_hold : (g : DcSwitchingSimulator) (o : SweepOrder) → Holds (sheet_lines g o) g
lines_hold g o =
    record {
      new = parts_passed (stations_of g) (cables_of g) (breakers_of g) (new_from (new_simulator g.dt_us g.duration_ms)) (λ x ls. refl) (λ x ls. refl) (λ x ls. refl);
      stations = stations_held (stations_of g) (cables_of g) (breakers_of g);
      cables = cables_held (stations_of g) (cables_of g) (breakers_of g);
      breakers = breakers_held (stations_of g) (cables_of g) (breakers_of g);
    }

pub order_held : (g : DcSwitchingSimulator) (o : SweepOrder) → order_in (sheet_lines g o) ≡ o
order_held g o = parts_passed (stations_of g) (cables_of g) (breakers_of g) (order_from o) (λ x ls. refl) (λ x ls. refl) (λ x ls. refl)

-- ---- the grid

take-blank : {A : Type 0} (z : A) (m k : ℕ) → m ≤ k → take m (replicate k z) ≡ replicate m z
take-blank z zero k h = refl
take-blank z (suc m) zero h = absurd (omega arith)
take-blank {A} z (suc m) (suc k) h = ap {B = List A} (λ r. z ∷ r) (take-blank z m k (omega arith))

-- an array of m with blanks from n on is laid from its first n
laid_again : {A : Type 0} (z : A) (m n : ℕ) (l : List A) → length l ≡ m → n ≤ m → drop n l ≡ replicate (m - n) z → laid m z (take n l) ≡ l
laid_again z m n l w h e =
    let k : length (take n l) ≡ n = length-take-le n l (omega arith) in
    let parted : m ≡ length (take n l) + (m - n) = omega arith in
    ap (λ j. take j (take n l ++ replicate m z)) parted
    ∙ take-append-add (take n l) (replicate m z) (m - n)
    ∙ ap (λ ys. take n l ++ ys) (take-blank z (m - n) m (omega arith) ∙ sym e)
    ∙ take-append-drop n l

-- an array that has room for a list has it in front
laid_front : {A : Type 0} (m : ℕ) (z : A) (xs : List A) → length xs ≤ m → take (length xs) (laid m z xs) ≡ xs
laid_front m z xs h = take-take (length xs) m (xs ++ replicate m z) (omega arith) ∙ take-append-le (length xs) xs (replicate m z) (omega arith) ∙ take_all (length xs) xs (omega arith)

module _ (ls : List (Option SheetLine)) (g : DcSwitchingSimulator) (h : Holds ls g) (made : Made g) where
  dt_held : (new_from (new_simulator nought nought) ls).dt_us ≡ g.dt_us
  unfolding new_simulator
  dt_held = ap (λ (x : DcSwitchingSimulator). x.dt_us) h.new ∙ made.dt_us

  duration_held : (new_from (new_simulator nought nought) ls).duration_ms ≡ g.duration_ms
  unfolding new_simulator
  duration_held = ap (λ (x : DcSwitchingSimulator). x.duration_ms) h.new ∙ made.duration_ms

  module _ (few_stations : g.n_stations ≤ 32) (few_cables : g.n_cables ≤ 64) (few-breakers : g.n_breakers ≤ 32) where
    count_stations : length (stations_in ls) ≡ g.n_stations
    count_stations = ap length h.stations ∙ length-take-le g.n_stations g.stations (let e = made.stations in omega arith)

    count_cables : length (cables_in ls) ≡ g.n_cables
    count_cables = ap length h.cables ∙ length-take-le g.n_cables g.cables (let e = made.cables in omega arith)

    count_breakers : length (breakers_in ls) ≡ g.n_breakers
    count_breakers = ap length h.breakers ∙ length-take-le g.n_breakers g.breakers (let e = made.breakers in omega arith)

    pub same_grid : SameGrid (grid_in ls) g
    unfolding grid_in
    same_grid =
        record {
          dt_us = dt_held;
          duration_ms = duration_held;
          n_stations = count_stations;
          n_cables = count_cables;
          n_breakers = count_breakers;
          stations = laid_front 32 blank_station (stations_in ls) (let e = count_stations in omega arith) ∙ h.stations;
          cables = laid_front 64 blank_cable (cables_in ls) (let e = count_cables in omega arith) ∙ h.cables;
          breakers = laid_front 32 blank_breaker (breakers_in ls) (let e = count_breakers in omega arith) ∙ h.breakers;
        }

    -- and the whole of it, where blanks stand past the counts
    pub whole_grid : BlankPast g → grid_in ls ≡ g
    unfolding grid_in
    whole_grid b = λ i.
        record {
          stations = (ap (laid 32 blank_station) h.stations ∙ laid_again blank_station 32 g.n_stations g.stations made.stations few_stations b.stations) i;
          cables = (ap (laid 64 blank_cable) h.cables ∙ laid_again blank_cable 64 g.n_cables g.cables made.cables few_cables b.cables) i;
          breakers = (ap (laid 32 blank_breaker) h.breakers ∙ laid_again blank_breaker 32 g.n_breakers g.breakers made.breakers few-breakers b.breakers) i;
          n_stations = count_stations i;
          n_cables = count_cables i;
          n_breakers = count_breakers i;
          dt_us = dt_held i;
          duration_ms = duration_held i;
        }
