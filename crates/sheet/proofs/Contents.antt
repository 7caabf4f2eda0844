-- What a sheet holds after the lines p, all in their place, and after one more. Assumes nothing.
use Rattle.std.proofs.Common.{Option, Some}
use Prim.Native.Nat.{ℕ, ◌+◌, ◌<◌, ◌≤◌}
use mathlib.Core.Path.{◌≡◌, refl, sym, ◌∙◌, ap, subst}
use mathlib.Core.Bool.{Bool, true, false, cond}
use mathlib.Core.List.{List, [], ◌∷◌, ◌++◌, append-nil}
use native.Mathlib.Omega.{arith}
use Rattle.std.proofs.Common.{None}
use lib.Dec.{eqb, ltb}
use lib.ListN.{length, length-append}
use lib.Ieee.{Float}
use borrow.Author.Tests.{ne_eqb, lt-ltb, eqb-true}
use Rattle.float64.specs.Constants.{nought}
use Rattle.grid.specs.Simulator.{blank_station, blank_cable, blank_breaker, new_simulator}
use Rattle.grid.specs.declared.parts.ConverterStation.{ConverterStation}
use Rattle.grid.specs.declared.parts.DcCable.{DcCable}
use Rattle.grid.specs.declared.parts.DcBreaker.{DcBreaker}
use Rattle.grid.specs.declared.parts.SweepOrder.{SweepOrder}
use Rattle.grid.specs.declared.simulator.DcSwitchingSimulator.{DcSwitchingSimulator}
use Rattle.sheet_lines.specs.declared.line.SheetLine.{SheetLine}
use Rattle.sheet_lines.specs.declared.line.SheetLine.TheVariants.{Times, Order, Station, Cable, Breaker}
use Rattle.line_order.specs.Ordered.{place_of, in_order, line_refusal}
use Rattle.whole_sheets.specs.Sheets.{most_lines, stations_in, cables_in, breakers_in, new_from, no_order, order_from, order_in, laid, grid_in, bad_station, bad_cable, bad_breaker, first_bad}
use Rattle.sheet_parts.specs.Parts.{counted_on, station_taken, cable_taken, breaker_taken}
use Rattle.taken_lines.specs.Taken.{empty_sheet, first_of, contents_with, moved_on}
use Rattle.taken_lines.specs.declared.taken.Sheet.{Sheet}
use Rattle.sheet.proofs.Laid.{laid_more}

-- the place of the last line
abbrev pub last_place : ℕ → List (Option SheetLine) → ℕ
last_place d [] = d
last_place d (l ∷ ls) = last_place (place_of l) ls

pub last_is : (d : ℕ) (p : List (Option SheetLine)) (l : Option SheetLine) → last_place d (p ++ (l ∷ [])) ≡ place_of l
last_is d [] l = refl
last_is d (x ∷ p) l = last_is (place_of x) p l

unfoldable pub contents_of : List (Option SheetLine) → Sheet
contents_of p =
    record {
      grid = grid_in p;
      order = order_in p;
      lines = length p;
      last = last_place 0 p;
      bad_station = first_bad bad_station 0 p;
      bad_cable = first_bad bad_cable 0 p;
      bad_breaker = first_bad bad_breaker 0 p;
      fault = None;
    }

-- ---- the parts of lines and one more

stations_more : (p q : List (Option SheetLine)) → stations_in (p ++ q) ≡ stations_in p ++ stations_in q
stations_more [] q = refl
stations_more (Some (Times dt duration) ∷ p) q = stations_more p q
stations_more (Some (Order o) ∷ p) q = stations_more p q
stations_more (Some (Station s known) ∷ p) q = ap {B = List ConverterStation} (λ r. s ∷ r) (stations_more p q)
stations_more (Some (Cable c) ∷ p) q = stations_more p q
stations_more (Some (Breaker b known) ∷ p) q = stations_more p q
stations_more (None ∷ p) q = stations_more p q

stations_few : (p : List (Option SheetLine)) → length (stations_in p) ≤ length p
stations_few [] = omega arith
stations_few (Some (Times dt duration) ∷ p) = let h = stations_few p in omega arith
stations_few (Some (Order o) ∷ p) = let h = stations_few p in omega arith
stations_few (Some (Station s known) ∷ p) = let h = stations_few p in omega arith
stations_few (Some (Cable c) ∷ p) = let h = stations_few p in omega arith
stations_few (Some (Breaker b known) ∷ p) = let h = stations_few p in omega arith
stations_few (None ∷ p) = let h = stations_few p in omega arith

cables_more : (p q : List (Option SheetLine)) → cables_in (p ++ q) ≡ cables_in p ++ cables_in q
cables_more [] q = refl
cables_more (Some (Times dt duration) ∷ p) q = cables_more p q
cables_more (Some (Order o) ∷ p) q = cables_more p q
cables_more (Some (Station s known) ∷ p) q = cables_more p q
cables_more (Some (Cable c) ∷ p) q = ap {B = List DcCable} (λ r. c ∷ r) (cables_more p q)
cables_more (Some (Breaker b known) ∷ p) q = cables_more p q
cables_more (None ∷ p) q = cables_more p q

cables_few : (p : List (Option SheetLine)) → length (cables_in p) ≤ length p
cables_few [] = omega arith
cables_few (Some (Times dt duration) ∷ p) = let h = cables_few p in omega arith
cables_few (Some (Order o) ∷ p) = let h = cables_few p in omega arith
cables_few (Some (Station s known) ∷ p) = let h = cables_few p in omega arith
cables_few (Some (Cable c) ∷ p) = let h = cables_few p in omega arith
cables_few (Some (Breaker b known) ∷ p) = let h = cables_few p in omega arith
cables_few (None ∷ p) = let h = cables_few p in omega arith

breakers_more : (p q : List (Option SheetLine)) → breakers_in (p ++ q) ≡ breakers_in p ++ breakers_in q
breakers_more [] q = refl
breakers_more (Some (Times dt duration) ∷ p) q = breakers_more p q
breakers_more (Some (Order o) ∷ p) q = breakers_more p q
breakers_more (Some (Station s known) ∷ p) q = breakers_more p q
breakers_more (Some (Cable c) ∷ p) q = breakers_more p q
breakers_more (Some (Breaker b known) ∷ p) q = ap {B = List DcBreaker} (λ r. b ∷ r) (breakers_more p q)
breakers_more (None ∷ p) q = breakers_more p q

breakers_few : (p : List (Option SheetLine)) → length (breakers_in p) ≤ length p
breakers_few [] = omega arith
breakers_few (Some (Times dt duration) ∷ p) = let h = breakers_few p in omega arith
breakers_few (Some (Order o) ∷ p) = let h = breakers_few p in omega arith
breakers_few (Some (Station s known) ∷ p) = let h = breakers_few p in omega arith
breakers_few (Some (Cable c) ∷ p) = let h = breakers_few p in omega arith
breakers_few (Some (Breaker b known) ∷ p) = let h = breakers_few p in omega arith
breakers_few (None ∷ p) = let h = breakers_few p in omega arith

new_more : (g : DcSwitchingSimulator) (p q : List (Option SheetLine)) → new_from g (p ++ q) ≡ new_from (new_from g p) q
new_more g [] q = refl
new_more g (Some (Times dt duration) ∷ p) q = new_more (new_simulator dt duration) p q
new_more g (Some (Order o) ∷ p) q = new_more g p q
new_more g (Some (Station s known) ∷ p) q = new_more g p q
new_more g (Some (Cable c) ∷ p) q = new_more g p q
new_more g (Some (Breaker b known) ∷ p) q = new_more g p q
new_more g (None ∷ p) q = new_more g p q

order_more : (o₀ : SweepOrder) (p q : List (Option SheetLine)) → order_from o₀ (p ++ q) ≡ order_from (order_from o₀ p) q
order_more o₀ [] q = refl
order_more o₀ (Some (Times dt duration) ∷ p) q = order_more o₀ p q
order_more o₀ (Some (Order o) ∷ p) q = order_more o p q
order_more o₀ (Some (Station s known) ∷ p) q = order_more o₀ p q
order_more o₀ (Some (Cable c) ∷ p) q = order_more o₀ p q
order_more o₀ (Some (Breaker b known) ∷ p) q = order_more o₀ p q
order_more o₀ (None ∷ p) q = order_more o₀ p q

-- ---- the first bad line

first_of-kept : (n : ℕ) (b : Bool) (k : ℕ) → (n ≡ 0 → ⊥) → first_of n b k ≡ n
unfolding first_of
first_of-kept n b k h = rw (ne_eqb n 0 h)

pub first_of_good : (n k : ℕ) → first_of n false k ≡ n
unfolding first_of
first_of_good n k = go (eqb n 0) refl
  where
    go : (t : Bool) → eqb n 0 ≡ t → cond t 0 n ≡ n
    go true e = sym (eqb-true n 0 e)
    go false e = refl

bad_more : (bad : Option SheetLine → Bool) (k : ℕ) (p : List (Option SheetLine)) (l : Option SheetLine) → first_bad bad k (p ++ (l ∷ [])) ≡ first_of (first_bad bad k p) (bad l) (k + length p + 1)
unfolding first_of
bad_more bad k [] l = let n : k + 1 ≡ k + 0 + 1 = omega arith in ap (λ m. cond (bad l) m 0) n
bad_more bad k (x ∷ p) l = go (bad x) (bad_more bad (k + 1) p l)
  where
    go : (t : Bool) → first_bad bad (k + 1) (p ++ (l ∷ [])) ≡ first_of (first_bad bad (k + 1) p) (bad l) (k + 1 + length p + 1)
        → cond t (k + 1) (first_bad bad (k + 1) (p ++ (l ∷ []))) ≡ first_of (cond t (k + 1) (first_bad bad (k + 1) p)) (bad l) (k + length (x ∷ p) + 1)
    go true h = sym (first_of-kept (k + 1) (bad l) (k + length (x ∷ p) + 1) (λ e. omega arith))
    go false h =
        let n : k + 1 + length p + 1 ≡ k + length (x ∷ p) + 1 = omega arith in
        h ∙ ap (first_of (first_bad bad (k + 1) p) (bad l)) n

-- ---- the grid of lines and one more

abbrev grid_with : List ConverterStation → List DcCable → List DcBreaker → DcSwitchingSimulator → DcSwitchingSimulator
grid_with xs cs bs new =
    record {
      stations = laid 32 blank_station xs;
      cables = laid 64 blank_cable cs;
      breakers = laid 32 blank_breaker bs;
      n_stations = length xs;
      n_cables = length cs;
      n_breakers = length bs;
      dt_us = new.dt_us;
      duration_ms = new.duration_ms;
    }

abbrev unmade : DcSwitchingSimulator
unmade = new_simulator nought nought

grid_is : (p : List (Option SheetLine)) → grid_in p ≡ grid_with (stations_in p) (cables_in p) (breakers_in p) (new_from unmade p)
unfolding grid_in
grid_is p = refl

grid_more : (p : List (Option SheetLine)) (l : Option SheetLine)
    → grid_with (stations_in p ++ stations_in (l ∷ [])) (cables_in p ++ cables_in (l ∷ [])) (breakers_in p ++ breakers_in (l ∷ [])) (new_from (new_from unmade p) (l ∷ [])) ≡ grid_in (p ++ (l ∷ []))
grid_more p l =
    sym
    (grid_is (p ++ (l ∷ []))
    ∙ ap (λ xs. grid_with xs (cables_in (p ++ (l ∷ []))) (breakers_in (p ++ (l ∷ []))) (new_from unmade (p ++ (l ∷ [])))) (stations_more p (l ∷ []))
    ∙ ap (λ cs. grid_with (stations_in p ++ stations_in (l ∷ [])) cs (breakers_in (p ++ (l ∷ []))) (new_from unmade (p ++ (l ∷ [])))) (cables_more p (l ∷ []))
    ∙ ap (λ bs. grid_with (stations_in p ++ stations_in (l ∷ [])) (cables_in p ++ cables_in (l ∷ [])) bs (new_from unmade (p ++ (l ∷ [])))) (breakers_more p (l ∷ []))
    ∙ ap (grid_with (stations_in p ++ stations_in (l ∷ [])) (cables_in p ++ cables_in (l ∷ [])) (breakers_in p ++ breakers_in (l ∷ []))) (new_more unmade p (l ∷ [])))

pub counted : (n : ℕ) → n < most_lines → counted_on n ≡ n + 1
unfolding counted_on
counted n h = rw (lt-ltb n most_lines h)

module _ (xs : List ConverterStation) (cs : List DcCable) (bs : List DcBreaker) (new : DcSwitchingSimulator) where
  station_put : (x : ConverterStation) → length xs < most_lines → station_taken (grid_with xs cs bs new) x ≡ grid_with (xs ++ (x ∷ [])) (cs ++ []) (bs ++ []) new
  unfolding station_taken
  station_put x h = rw (counted (length xs) h, laid_more blank_station 32 xs x, append-nil cs, append-nil bs, length-append xs (x ∷ []))

  cable_put : (x : DcCable) → length cs < most_lines → cable_taken (grid_with xs cs bs new) x ≡ grid_with (xs ++ []) (cs ++ (x ∷ [])) (bs ++ []) new
  unfolding cable_taken
  cable_put x h = rw (counted (length cs) h, laid_more blank_cable 64 cs x, append-nil xs, append-nil bs, length-append cs (x ∷ []))

  breaker_put : (x : DcBreaker) → length bs < most_lines → breaker_taken (grid_with xs cs bs new) x ≡ grid_with (xs ++ []) (cs ++ []) (bs ++ (x ∷ [])) new
  unfolding breaker_taken
  breaker_put x h = rw (counted (length bs) h, laid_more blank_breaker 32 bs x, append-nil xs, append-nil cs, length-append bs (x ∷ []))

  nothing_put : grid_with xs cs bs new ≡ grid_with (xs ++ []) (cs ++ []) (bs ++ []) new
  nothing_put = rw (append-nil xs, append-nil cs, append-nil bs)

-- ---- the sheet of lines and one more

same : {g g' : DcSwitchingSimulator} {o o' : SweepOrder} {n n' m m' x x' y y' z z' : ℕ} → g ≡ g' → o ≡ o' → n ≡ n' → m ≡ m' → x ≡ x' → y ≡ y' → z ≡ z'
    → ◌≡◌ {A = Sheet}
    record { grid = g; order = o; lines = n; last = m; bad_station = x; bad_cable = y; bad_breaker = z; fault = None }
    record { grid = g'; order = o'; lines = n'; last = m'; bad_station = x'; bad_cable = y'; bad_breaker = z'; fault = None }
same a b c d e f h = rw (a, b, c, d, e, f, h)

first_line : (k before : ℕ) → line_refusal k before 0 ≡ 0 → k ≡ 0
unfolding line_refusal in_order
first_line k before e = go (ltb k 2) (eqb 0 k) refl e
  where
    go : (t u : Bool) → eqb 0 k ≡ u → ◌≡◌ {A = ℕ} (cond (cond t u false) 0 13) 0 → k ≡ 0
    go true true q e = sym (eqb-true 0 k q)
    go true false q e = let z : ◌≡◌ {A = ℕ} 13 0 = e in absurd (omega arith)
    go false u q e = let z : ◌≡◌ {A = ℕ} 13 0 = e in absurd (omega arith)

no_line : (p : List (Option SheetLine)) → length p ≡ 0 → p ≡ []
no_line [] h = refl
no_line (l ∷ p) h = absurd (omega arith)

pub wrong_refused : (k before : ℕ) → line_refusal k before 5 ≡ 12
unfolding line_refusal
wrong_refused k before = refl

times_first : (dt duration : Float) → moved_on (contents_with (contents_of []) (Some (Times dt duration))) (counted_on 0) 0 ≡ contents_of (Some (Times dt duration) ∷ [])
unfolding contents_with contents_of grid_in new_simulator counted_on
times_first dt duration = refl

pub contents_none : empty_sheet ≡ contents_of []
unfolding empty_sheet contents_of grid_in new_simulator
contents_none = refl

module _ (p : List (Option SheetLine)) (h : length p < most_lines) where
  abbrev lines_more : (l : Option SheetLine) → counted_on (length p) ≡ length (p ++ (l ∷ []))
  lines_more l = counted (length p) h ∙ sym (length-append p (l ∷ []))

  -- what the first bad line is after one more
  abbrev bads_more : (bad : Option SheetLine → Bool) (l : Option SheetLine) → first_of (first_bad bad 0 p) (bad l) (counted_on (length p)) ≡ first_bad bad 0 (p ++ (l ∷ []))
  bads_more bad l =
      let n : counted_on (length p) ≡ 0 + length p + 1 = counted (length p) h ∙ omega arith in
      ap (first_of (first_bad bad 0 p) (bad l)) n ∙ sym (bad_more bad 0 p l)

  abbrev bads_same : (bad : Option SheetLine → Bool) (l : Option SheetLine) → bad l ≡ false → first_bad bad 0 p ≡ first_bad bad 0 (p ++ (l ∷ []))
  bads_same bad l e = sym (first_of_good (first_bad bad 0 p) (0 + length p + 1)) ∙ ap (λ b. first_of (first_bad bad 0 p) b (0 + length p + 1)) (sym e) ∙ sym (bad_more bad 0 p l)

  pub contents_more : (l : Option SheetLine) → line_refusal (length p) (last_place 0 p) (place_of l) ≡ 0 → moved_on (contents_with (contents_of p) l) (counted_on (length p)) (place_of l) ≡ contents_of (p ++ (l ∷ []))
  unfolding contents_with contents_of
  contents_more (Some (Times dt duration)) e =
      let none : p ≡ [] = no_line p (first_line (length p) (last_place 0 p) e) in
      subst (λ q. moved_on (contents_with (contents_of q) (Some (Times dt duration))) (counted_on (length q)) 0 ≡ contents_of (q ++ (Some (Times dt duration) ∷ []))) (sym none) (times_first dt duration)
  contents_more (Some (Order o)) e =
      same
      (grid_is p ∙ nothing_put (stations_in p) (cables_in p) (breakers_in p) (new_from unmade p) ∙ grid_more p (Some (Order o)))
      (sym (order_more no_order p (Some (Order o) ∷ [])))
      (lines_more (Some (Order o)))
      (sym (last_is 0 p (Some (Order o))))
      (bads_same bad_station (Some (Order o)) refl)
      (bads_same bad_cable (Some (Order o)) refl)
      (bads_same bad_breaker (Some (Order o)) refl)
  contents_more (Some (Station x known)) e =
      same
      (ap (λ g. station_taken g x) (grid_is p) ∙ station_put (stations_in p) (cables_in p) (breakers_in p) (new_from unmade p) x (omega (arith, stations_few p)) ∙ grid_more p (Some (Station x known)))
      (sym (order_more no_order p (Some (Station x known) ∷ [])))
      (lines_more (Some (Station x known)))
      (sym (last_is 0 p (Some (Station x known))))
      (bads_more bad_station (Some (Station x known)))
      (bads_same bad_cable (Some (Station x known)) refl)
      (bads_same bad_breaker (Some (Station x known)) refl)
  contents_more (Some (Cable x)) e =
      same
      (ap (λ g. cable_taken g x) (grid_is p) ∙ cable_put (stations_in p) (cables_in p) (breakers_in p) (new_from unmade p) x (omega (arith, cables_few p)) ∙ grid_more p (Some (Cable x)))
      (sym (order_more no_order p (Some (Cable x) ∷ [])))
      (lines_more (Some (Cable x)))
      (sym (last_is 0 p (Some (Cable x))))
      (bads_same bad_station (Some (Cable x)) refl)
      (bads_more bad_cable (Some (Cable x)))
      (bads_same bad_breaker (Some (Cable x)) refl)
  contents_more (Some (Breaker x known)) e =
      same
      (ap (λ g. breaker_taken g x) (grid_is p) ∙ breaker_put (stations_in p) (cables_in p) (breakers_in p) (new_from unmade p) x (omega (arith, breakers_few p)) ∙ grid_more p (Some (Breaker x known)))
      (sym (order_more no_order p (Some (Breaker x known) ∷ [])))
      (lines_more (Some (Breaker x known)))
      (sym (last_is 0 p (Some (Breaker x known))))
      (bads_same bad_station (Some (Breaker x known)) refl)
      (bads_same bad_cable (Some (Breaker x known)) refl)
      (bads_more bad_breaker (Some (Breaker x known)))
  contents_more None e = let z : ◌≡◌ {A = ℕ} 12 0 = sym (wrong_refused (length p) (last_place 0 p)) ∙ e in absurd (omega arith)
