-- The sheet of any lines is answered as the definitions have it. Assumes nothing.
use Rattle.std.proofs.Common.{Option, Some, None}
use Prim.Native.Nat.{ℕ, zero, suc, ◌+◌, ◌<◌, ◌≤◌}
use mathlib.Core.Path.{◌≡◌, refl, sym, ◌∙◌, ap}
use mathlib.Core.Bool.{Bool, true, false, not, ◌&&◌, ◌||◌, cond}
use mathlib.Core.List.{List, [], ◌∷◌, ◌++◌, foldl, append-nil, append_assoc}
use native.Mathlib.Omega.{arith}
use lib.Dec.{eqb, ltb}
use lib.ListN.{length, take, length-append}
use borrow.Author.Tests.{eq-eqb, ne_eqb, le-leb, lt-leb, eqb-true, ltb-true}
use Rattle.lists.specs.Scans.{every}
use Rattle.lists.proofs.Scanning.{right, both}
use Rattle.part_checks.specs.PartChecks.{station_ok, cable_ok, breaker_ok, order_ok}
use Rattle.grid.specs.Simulator.{blank_station, blank_cable, blank_breaker}
use Rattle.grid.specs.declared.simulator.DcSwitchingSimulator.{DcSwitchingSimulator}
use Rattle.grid.specs.declared.parts.SweepOrder.{SweepOrder}
use Rattle.rules.specs.Studies.{broken, first, fault_order}
use Rattle.rule_tests.specs.Rules.{station_outside, cable_outside, breaker_outside}
use Rattle.sheet_lines.specs.declared.line.SheetLine.{SheetLine}
use Rattle.sheet_lines.specs.declared.line.SheetLine.TheVariants.{Times, Order, Station, Cable, Breaker}
use Rattle.line_order.specs.Ordered.{no_place, place_of, in_order, line_refusal}
use Rattle.whole_sheets.specs.Sheets.{Refusal, SheetAnswer, most_lines, refused, none, fault_in, form_refusal, stations_in, cables_in, breakers_in, order_in, grid_in, bad_station, bad_cable, bad_breaker, first_bad, sheet_broken, shown_at, refusal_of, answered}
use Rattle.sheet_parts.specs.Parts.{counted_on}
use Rattle.taken_lines.specs.Taken.{fault_of, empty_sheet, stopped_at, contents_with, refused_by, with_line}
use Rattle.sheet_answers.specs.Answers.{rule_broken, rule_refusal, rule_line, refusal_in}
use Rattle.taken_lines.specs.declared.taken.Sheet.{Sheet}
use Rattle.sheet.proofs.Laid.{every-laid}
use Rattle.taken_lines.proofs.Ways.{stopped_way, taken_way, refused_way}
use Rattle.sheet.proofs.Contents.{last_place, last_is, contents_of, counted, contents_none, contents_more}

-- ---- where no line of a letter is bad, the grid has no bad part

stations_good : (k : ℕ) (p : List (Option SheetLine)) → first_bad bad_station k p ≡ 0 → every station_ok (stations_in p) ≡ true
stations_good k [] e = refl
stations_good k (Some (Times dt duration) ∷ p) e = stations_good (k + 1) p e
stations_good k (Some (Order o) ∷ p) e = stations_good (k + 1) p e
stations_good k (Some (Station s known) ∷ p) e = go (known && station_ok s) refl e (stations_good (k + 1) p)
  where
    go : (t : Bool) → (known && station_ok s) ≡ t → cond (not t) (k + 1) (first_bad bad_station (k + 1) p) ≡ 0 → (first_bad bad_station (k + 1) p ≡ 0 → every station_ok (stations_in p) ≡ true) → every station_ok (s ∷ stations_in p) ≡ true
    go true q e ih = both (station_ok s) (every station_ok (stations_in p)) (right known (station_ok s) q) (ih e)
    go false q e ih = absurd (omega arith)
stations_good k (Some (Cable c) ∷ p) e = stations_good (k + 1) p e
stations_good k (Some (Breaker b known) ∷ p) e = stations_good (k + 1) p e
stations_good k (None ∷ p) e = stations_good (k + 1) p e

cables_good : (k : ℕ) (p : List (Option SheetLine)) → first_bad bad_cable k p ≡ 0 → every cable_ok (cables_in p) ≡ true
cables_good k [] e = refl
cables_good k (Some (Times dt duration) ∷ p) e = cables_good (k + 1) p e
cables_good k (Some (Order o) ∷ p) e = cables_good (k + 1) p e
cables_good k (Some (Station s known) ∷ p) e = cables_good (k + 1) p e
cables_good k (Some (Cable c) ∷ p) e = go (cable_ok c) refl e (cables_good (k + 1) p)
  where
    go : (t : Bool) → (cable_ok c) ≡ t → cond (not t) (k + 1) (first_bad bad_cable (k + 1) p) ≡ 0 → (first_bad bad_cable (k + 1) p ≡ 0 → every cable_ok (cables_in p) ≡ true) → every cable_ok (c ∷ cables_in p) ≡ true
    go true q e ih = both (cable_ok c) (every cable_ok (cables_in p)) (q) (ih e)
    go false q e ih = absurd (omega arith)
cables_good k (Some (Breaker b known) ∷ p) e = cables_good (k + 1) p e
cables_good k (None ∷ p) e = cables_good (k + 1) p e

breakers_good : (k : ℕ) (p : List (Option SheetLine)) → first_bad bad_breaker k p ≡ 0 → every breaker_ok (breakers_in p) ≡ true
breakers_good k [] e = refl
breakers_good k (Some (Times dt duration) ∷ p) e = breakers_good (k + 1) p e
breakers_good k (Some (Order o) ∷ p) e = breakers_good (k + 1) p e
breakers_good k (Some (Station s known) ∷ p) e = breakers_good (k + 1) p e
breakers_good k (Some (Cable c) ∷ p) e = breakers_good (k + 1) p e
breakers_good k (Some (Breaker b known) ∷ p) e = go (known && breaker_ok b) refl e (breakers_good (k + 1) p)
  where
    go : (t : Bool) → (known && breaker_ok b) ≡ t → cond (not t) (k + 1) (first_bad bad_breaker (k + 1) p) ≡ 0 → (first_bad bad_breaker (k + 1) p ≡ 0 → every breaker_ok (breakers_in p) ≡ true) → every breaker_ok (b ∷ breakers_in p) ≡ true
    go true q e ih = both (breaker_ok b) (every breaker_ok (breakers_in p)) (right known (breaker_ok b) q) (ih e)
    go false q e ih = absurd (omega arith)
breakers_good k (None ∷ p) e = breakers_good (k + 1) p e

not_false : (n : ℕ) → not (eqb n 0) ≡ false → n ≡ 0
not_false n h = go (eqb n 0) refl h
  where
    go : (t : Bool) → eqb n 0 ≡ t → not t ≡ false → n ≡ 0
    go true e h = eqb-true n 0 e
    go false e h = let z : ◌≡◌ {A = ℕ} 1 0 = ap (λ b. cond b 1 0) h in absurd (omega arith)

six : (p : List (Option SheetLine)) (e : Bool) → not (eqb (first_bad bad_station 0 p) 0) ≡ false → broken (grid_in p) e 6 ≡ false
unfolding broken station_outside grid_in
six p e h = ap not (every-laid station_ok 32 blank_station (stations_in p) (stations_good 0 p (not_false (first_bad bad_station 0 p) h)))

seven : (p : List (Option SheetLine)) (e : Bool) → not (eqb (first_bad bad_cable 0 p) 0) ≡ false → broken (grid_in p) e 7 ≡ false
unfolding broken cable_outside grid_in
seven p e h = ap not (every-laid cable_ok 64 blank_cable (cables_in p) (cables_good 0 p (not_false (first_bad bad_cable 0 p) h)))

eight : (p : List (Option SheetLine)) (e : Bool) → not (eqb (first_bad bad_breaker 0 p) 0) ≡ false → broken (grid_in p) e 8 ≡ false
unfolding broken breaker_outside grid_in
eight p e h = ap not (every-laid breaker_ok 32 blank_breaker (breakers_in p) (breakers_good 0 p (not_false (first_bad bad_breaker 0 p) h)))

-- ---- the rules

absorbed : (b a : Bool) → (a ≡ false → b ≡ false) → (b || a) ≡ a
absorbed true true h = refl
absorbed false true h = refl
absorbed true false h = h refl
absorbed false false h = refl

or_none : (b : Bool) → (b || false) ≡ b
or_none true = refl
or_none false = refl

pub ruled : (p : List (Option SheetLine)) (rule : ℕ) → rule_broken (contents_of p) rule ≡ sheet_broken p rule
unfolding rule_broken sheet_broken contents_of
ruled p rule = go (eqb rule 6) (eqb rule 7) (eqb rule 8) refl refl refl
  where
    go : (x y z : Bool) → eqb rule 6 ≡ x → eqb rule 7 ≡ y → eqb rule 8 ≡ z
        → (broken (grid_in p) (not (order_ok (order_in p))) rule || cond x (not (eqb (first_bad bad_station 0 p) 0)) (cond y (not (eqb (first_bad bad_cable 0 p) 0)) (cond z (not (eqb (first_bad bad_breaker 0 p) 0)) false)))
        ≡ cond x (not (eqb (first_bad bad_station 0 p) 0)) (cond y (not (eqb (first_bad bad_cable 0 p) 0)) (cond z (not (eqb (first_bad bad_breaker 0 p) 0)) (broken (grid_in p) (not (order_ok (order_in p))) rule)))
    go true y z a b c = absorbed (broken (grid_in p) (not (order_ok (order_in p))) rule) (not (eqb (first_bad bad_station 0 p) 0)) (λ h. ap (broken (grid_in p) (not (order_ok (order_in p)))) (eqb-true rule 6 a) ∙ six p (not (order_ok (order_in p))) h)
    go false true z a b c = absorbed (broken (grid_in p) (not (order_ok (order_in p))) rule) (not (eqb (first_bad bad_cable 0 p) 0)) (λ h. ap (broken (grid_in p) (not (order_ok (order_in p)))) (eqb-true rule 7 b) ∙ seven p (not (order_ok (order_in p))) h)
    go false false true a b c = absorbed (broken (grid_in p) (not (order_ok (order_in p))) rule) (not (eqb (first_bad bad_breaker 0 p) 0)) (λ h. ap (broken (grid_in p) (not (order_ok (order_in p)))) (eqb-true rule 8 c) ∙ eight p (not (order_ok (order_in p))) h)
    go false false false a b c = or_none (broken (grid_in p) (not (order_ok (order_in p))) rule)

first_same : (f g : ℕ → Bool) → ((k : ℕ) → f k ≡ g k) → (ks : List ℕ) → first f ks ≡ first g ks
unfolding first
first_same f g h [] = refl
first_same f g h (k ∷ ks) = ap (λ t. cond t k (first f ks)) (h k) ∙ ap (cond (g k) k) (first_same f g h ks)

abbrev rule_of : List (Option SheetLine) → ℕ
rule_of p = first (sheet_broken p) fault_order

rule_is : (p : List (Option SheetLine)) → rule_refusal (contents_of p) ≡ rule_of p
unfolding rule_refusal
rule_is p = first_same (rule_broken (contents_of p)) (sheet_broken p) (ruled p) fault_order

line_is : (p : List (Option SheetLine)) (rule : ℕ) → rule_line (contents_of p) rule ≡ shown_at p rule
unfolding rule_line shown_at contents_of
line_is p rule = refl

-- ---- the end of the lines

-- refusal_of, from the lines p on
abbrev judged_by : Refusal → List (Option SheetLine) → Refusal
judged_by f ls = cond (eqb f.number 0) (refused (rule_of ls) (shown_at ls (rule_of ls))) f

abbrev answer_to : Sheet → SheetAnswer
answer_to s = answered (refusal_in s) s.grid s.order

abbrev target : List (Option SheetLine) → List (Option SheetLine) → SheetAnswer
target p q = answered (judged_by (form_refusal (length p) (last_place 0 p) q) (p ++ q)) (grid_in (p ++ q)) (order_in (p ++ q))

end_refusal : (p : List (Option SheetLine)) → refusal_in (contents_of p) ≡ judged_by (form_refusal (length p) (last_place 0 p) []) p
unfolding refusal_in contents_of
end_refusal p = go (ltb (length p) 2) refl
  where
    go : (t : Bool) → ltb (length p) 2 ≡ t
        → cond t (refused 13 (counted_on (length p))) (refused (rule_refusal (contents_of p)) (rule_line (contents_of p) (rule_refusal (contents_of p))))
        ≡ judged_by (cond t (refused 13 (length p + 1)) none) p
    go true e = let h : length p < 2 = ltb-true (length p) 2 e in ap (refused 13) (counted (length p) (omega arith))
    go false e = ap (λ r. refused r (rule_line (contents_of p) r)) (rule_is p) ∙ ap (refused (rule_of p)) (line_is p (rule_of p))

at_end_lem : (p : List (Option SheetLine)) → answer_to (contents_of p) ≡ target p []
unfolding contents_of
at_end_lem p =
    ap (λ r. answered r (grid_in p) (order_in p)) (end_refusal p)
    ∙ ap (λ ls. answered (judged_by (form_refusal (length p) (last_place 0 p) []) ls) (grid_in ls) (order_in ls)) (sym (append-nil p))

-- ---- a sheet that has stopped

pub lines_stopped : (s : Sheet) (ls : List (Option SheetLine)) → stopped_at s ≡ true → foldl with_line s ls ≡ s
lines_stopped s [] h = refl
lines_stopped s (l ∷ ls) h = ap (λ t. foldl with_line t ls) (sym (stopped_way s l h)) ∙ lines_stopped s ls h

going : (p : List (Option SheetLine)) → length p < most_lines → stopped_at (contents_of p) ≡ false
unfolding stopped_at contents_of
going p h = lt-leb most_lines (length p) h

done : (p : List (Option SheetLine)) → most_lines ≤ length p → stopped_at (contents_of p) ≡ true
unfolding stopped_at contents_of
done p h = le-leb most_lines (length p) h

refused_stops : (s : Sheet) (r : ℕ) → (r ≡ 0 → ⊥) → stopped_at (refused_by s r) ≡ true
unfolding stopped_at
refused_stops s r h = rw (ne_eqb r 0 h)

-- a line's fault has the number 12 or 13
line_known : (k before place : ℕ) → fault_in (fault_of (line_refusal k before place)) ≡ line_refusal k before place
unfolding line_refusal
line_known k before place = go (eqb place no_place) (in_order k before place)
  where
    go : (x y : Bool) → fault_in (fault_of (cond x 12 (cond y 0 13))) ≡ cond x 12 (cond y 0 13)
    go true y = refl
    go false true = refl
    go false false = refl

-- ---- a line that is refused

refused_is : (p : List (Option SheetLine)) (r : ℕ) → fault_in (fault_of r) ≡ r → length p < most_lines → (r ≡ 0 → ⊥) → refusal_in (refused_by (contents_of p) r) ≡ refused r (length p + 1)
unfolding refusal_in contents_of
refused_is p r f h z =
    ap (λ n. cond (eqb n 0) (cond (ltb (length p) 2) (refused 13 (counted_on (length p))) (refused (rule_refusal (refused_by (contents_of p) r)) (rule_line (refused_by (contents_of p) r) (rule_refusal (refused_by (contents_of p) r))))) (refused n (counted_on (length p)))) f
    ∙ ap (λ t. cond t (cond (ltb (length p) 2) (refused 13 (counted_on (length p))) (refused (rule_refusal (refused_by (contents_of p) r)) (rule_line (refused_by (contents_of p) r) (rule_refusal (refused_by (contents_of p) r))))) (refused r (counted_on (length p)))) (ne_eqb r 0 z)
    ∙ ap (refused r) (counted (length p) h)

-- beside a refusal no grid and no order stands
no_grid : (r n : ℕ) → (r ≡ 0 → ⊥) → (g g' : DcSwitchingSimulator) (o o' : SweepOrder) → answered (refused r n) g o ≡ answered (refused r n) g' o'
unfolding answered
no_grid r n z g g' o o' = rw (ne_eqb r 0 z)

refused_answer : (p : List (Option SheetLine)) (r : ℕ) → fault_in (fault_of r) ≡ r → length p < most_lines → (r ≡ 0 → ⊥) → (g : DcSwitchingSimulator) (o : SweepOrder) (ls : List (Option SheetLine))
    → answer_to (refused_by (contents_of p) r) ≡ answered (judged_by (refused r (length p + 1)) ls) g o
refused_answer p r f h z g o ls =
    ap (λ a. answered a (contents_of p).grid (contents_of p).order) (refused_is p r f h z)
    ∙ no_grid r (length p + 1) z (contents_of p).grid g (contents_of p).order o
    ∙ ap (λ t. answered (cond t (refused (rule_of ls) (shown_at ls (rule_of ls))) (refused r (length p + 1))) g o) (sym (ne_eqb r 0 z))

-- ---- a line more

taken_is : (p : List (Option SheetLine)) (l : Option SheetLine) → length p < most_lines → line_refusal (length p) (last_place 0 p) (place_of l) ≡ 0 → with_line (contents_of p) l ≡ contents_of (p ++ (l ∷ []))
unfolding contents_of
taken_is p l h z =
    sym (taken_way (contents_of p) l (going p h) (place_of l) refl (line_refusal (length p) (last_place 0 p) (place_of l)) refl z (contents_with (contents_of p) l) refl (counted_on (length p)) refl)
    ∙ contents_more p h l z

line-refused_is : (p : List (Option SheetLine)) (l : Option SheetLine) → length p < most_lines → (line_refusal (length p) (last_place 0 p) (place_of l) ≡ 0 → ⊥)
    → with_line (contents_of p) l ≡ refused_by (contents_of p) (line_refusal (length p) (last_place 0 p) (place_of l))
unfolding contents_of
line-refused_is p l h z = sym (refused_way (contents_of p) l (going p h) (place_of l) refl (line_refusal (length p) (last_place 0 p) (place_of l)) refl z)

-- ---- all lines

abbrev answer_at : (n before : ℕ) → List (Option SheetLine) → List (Option SheetLine) → SheetAnswer
answer_at n before q ls = answered (judged_by (form_refusal n before q) ls) (grid_in ls) (order_in ls)

nonzero : (r : ℕ) → eqb r 0 ≡ false → r ≡ 0 → ⊥
nonzero r e z = let k : ◌≡◌ {A = ℕ} 1 0 = ap (λ b. cond b 1 0) (sym (eq-eqb r 0 z) ∙ e) in omega arith

judged : (ls p : List (Option SheetLine)) (k : ℕ) → k + length p ≡ most_lines → answer_to (foldl with_line (contents_of p) ls) ≡ target p (take k ls)
judged [] p zero e = at_end_lem p
judged [] p (suc k) e = at_end_lem p
judged (l ∷ ls) p zero e = ap answer_to (lines_stopped (contents_of p) (l ∷ ls) (done p (omega arith))) ∙ at_end_lem p
judged (l ∷ ls) p (suc k) e = step (eqb r 0) refl (judged ls (p ++ (l ∷ [])) k (rw length-append (omega arith)))
  where
    r : ℕ
    r = line_refusal (length p) (last_place 0 p) (place_of l)

    h : length p < most_lines
    h = omega arith

    q : List (Option SheetLine)
    q = take k ls

    joined : target (p ++ (l ∷ [])) q ≡ answered (judged_by (form_refusal (length p + 1) (place_of l) q) (p ++ (l ∷ q))) (grid_in (p ++ (l ∷ q))) (order_in (p ++ (l ∷ q)))
    joined =
        ap (λ n. answer_at n (last_place 0 (p ++ (l ∷ []))) q ((p ++ (l ∷ [])) ++ q)) (length-append p (l ∷ []))
        ∙ ap (λ m. answer_at (length p + 1) m q ((p ++ (l ∷ [])) ++ q)) (last_is 0 p l)
        ∙ ap (answer_at (length p + 1) (place_of l) q) (append_assoc p (l ∷ []) q)

    step : (t : Bool) → eqb r 0 ≡ t → answer_to (foldl with_line (contents_of (p ++ (l ∷ []))) ls) ≡ target (p ++ (l ∷ [])) q
        → answer_to (foldl with_line (with_line (contents_of p) l) ls)
        ≡ answered (judged_by (cond t (form_refusal (length p + 1) (place_of l) q) (refused r (length p + 1))) (p ++ (l ∷ q))) (grid_in (p ++ (l ∷ q))) (order_in (p ++ (l ∷ q)))
    step true z ih = ap (λ s. answer_to (foldl with_line s ls)) (taken_is p l h (eqb-true r 0 z)) ∙ ih ∙ joined
    step false z ih =
        ap (λ s. answer_to (foldl with_line s ls)) (line-refused_is p l h (nonzero r z))
        ∙ ap answer_to (lines_stopped (refused_by (contents_of p) r) ls (refused_stops (contents_of p) r (nonzero r z)))
        ∙ refused_answer p r (line_known (length p) (last_place 0 p) (place_of l)) h (nonzero r z) (grid_in (p ++ (l ∷ q))) (order_in (p ++ (l ∷ q))) (p ++ (l ∷ q))

target_is : (q : List (Option SheetLine)) → target [] q ≡ answered (refusal_of q) (grid_in q) (order_in q)
unfolding refusal_of
target_is q = refl

-- k stands for the number of lines that are read
pub lines_judged : (ls : List (Option SheetLine)) (k : ℕ) → k ≡ most_lines → answer_to (foldl with_line empty_sheet ls) ≡ answered (refusal_of (take k ls)) (grid_in (take k ls)) (order_in (take k ls))
lines_judged ls k e = ap (λ s. answer_to (foldl with_line s ls)) contents_none ∙ judged ls [] k (omega arith) ∙ target_is (take k ls)
