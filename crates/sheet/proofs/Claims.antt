-- What is said of a sheet beside the definitions. Assumes nothing.
use Rattle.std.proofs.Common.{Option}
use Prim.Native.Nat.{ℕ}
use mathlib.Core.Path.{◌≡◌, refl, sym, ◌∙◌, ap}
use mathlib.Core.Bool.{Bool, true, false, not, ◌||◌, cond}
use mathlib.Core.List.{List, [], ◌∷◌, foldl, foldl-append}
use native.Mathlib.Omega.{arith}
use lib.Dec.{eqb}
use borrow.Author.Tests.{eq-eqb}
use Rattle.lists.specs.Scans.{every}
use Rattle.lists.proofs.Scanning.{left, right}
use Rattle.part_checks.specs.PartChecks.{order_ok}
use Rattle.grid.specs.declared.simulator.DcSwitchingSimulator.{DcSwitchingSimulator}
use Rattle.grid.specs.declared.parts.SweepOrder.{SweepOrder}
use Rattle.rules.specs.Studies.{broken, first, fault_order, sweep_refusal}
use Rattle.sheet_lines.specs.declared.line.SheetLine.{SheetLine}
use Rattle.whole_sheets.specs.Sheets.{Refusal, SheetAnswer, said, refused, no_order, form_refusal, grid_in, order_in, sheet_broken, shown_at, refusal_of, answered, sheet_answer}
use Rattle.sheet_bytes.specs.Bytes.{start_of, byte_taken}
use Rattle.sheet_answers.specs.Answers.{rule_broken, answer_of}
use Rattle.sheet.specs.Claims.{joined, fed_all, SheetClaims}
use Rattle.sheet_bytes.specs.declared.bytes.Reading.{Reading}
use Rattle.float64.specs.Constants.{nought}
use Rattle.grid.specs.Simulator.{new_simulator}
use Rattle.sheet.proofs.Contents.{contents_of}
use Rattle.sheet_bytes.proofs.Feeding.{fold-stopped}
use Rattle.sheet.proofs.Judged.{ruled}
use Rattle.sheet.proofs.Whole.{whole}

fed_all_lem : (r : Reading) (ps : List (List ℕ)) → fed_all r ps ≡ foldl byte_taken r (joined ps)
fed_all_lem r [] = refl
fed_all_lem r (p ∷ ps) = fed_all_lem (foldl byte_taken r p) ps ∙ sym (foldl-append byte_taken r p (joined ps))

-- ---- a sheet that is not refused

-- where no rule of f is broken, none of g is
first_none : (f g : ℕ → Bool) → ((k : ℕ) → f k ≡ false → g k ≡ false) → (ks : List ℕ) → every (λ k. not (eqb k 0)) ks ≡ true → first f ks ≡ 0 → first g ks ≡ 0
unfolding first
first_none f g h [] n e = refl
first_none f g h (k ∷ ks) n e = go (f k) refl e (first_none f g h ks (right (not (eqb k 0)) (every (λ k. not (eqb k 0)) ks) n))
  where
    go : (t : Bool) → f k ≡ t → cond t k (first f ks) ≡ 0 → (first f ks ≡ 0 → first g ks ≡ 0) → cond (g k) k (first g ks) ≡ 0
    go true q e ih = let z : ◌≡◌ {A = ℕ} 0 1 = ap (λ b. cond b 1 0) (sym (ap not (eq-eqb k 0 e)) ∙ left (not (eqb k 0)) (every (λ k. not (eqb k 0)) ks) n) in absurd (omega arith)
    go false q e ih = ap (λ t. cond t k (first g ks)) (h k q) ∙ ih e

or_left : (a b : Bool) → (a || b) ≡ false → a ≡ false
or_left true b e = e
or_left false b e = refl

grid_passes : (ls : List (Option SheetLine)) (k : ℕ) → sheet_broken ls k ≡ false → broken (grid_in ls) (not (order_ok (order_in ls))) k ≡ false
unfolding rule_broken contents_of
grid_passes ls k e = or_left (broken (grid_in ls) (not (order_ok (order_in ls))) k) _ (ruled ls k ∙ e)

passes : (ls : List (Option SheetLine)) → (refusal_of ls).number ≡ 0 → sweep_refusal (grid_in ls) (order_in ls) ≡ 0
unfolding refusal_of sweep_refusal
passes ls e = go (eqb (form_refusal 0 0 ls).number 0) refl e
  where
    go : (t : Bool) → eqb (form_refusal 0 0 ls).number 0 ≡ t
        → (cond t (refused (first (sheet_broken ls) fault_order) (shown_at ls (first (sheet_broken ls) fault_order))) (form_refusal 0 0 ls)).number ≡ 0
        → first (broken (grid_in ls) (not (order_ok (order_in ls)))) fault_order ≡ 0
    go true q e = first_none (sheet_broken ls) (broken (grid_in ls) (not (order_ok (order_in ls)))) (grid_passes ls) fault_order refl e
    go false q e = let z : ◌≡◌ {A = ℕ} 0 1 = ap (λ b. cond b 1 0) (sym q ∙ eq-eqb (form_refusal 0 0 ls).number 0 e) in absurd (omega arith)

answer_passes : (f : Refusal) (g : DcSwitchingSimulator) (o : SweepOrder) → (f.number ≡ 0 → sweep_refusal g o ≡ 0) → (answered f g o).refusal.number ≡ 0 → sweep_refusal (answered f g o).grid (answered f g o).order ≡ 0
unfolding answered
answer_passes f g o h e = go (eqb f.number 0) refl e
  where
    answer : Bool → SheetAnswer
    answer t = cond t (record { refusal = f; grid = g; order = o }) (record { refusal = f; grid = new_simulator nought nought; order = no_order })

    go : (t : Bool) → eqb f.number 0 ≡ t → (answer t).refusal.number ≡ 0 → sweep_refusal (answer t).grid (answer t).order ≡ 0
    go true q e = h e
    go false q e = let z : ◌≡◌ {A = ℕ} 0 1 = ap (λ b. cond b 1 0) (sym q ∙ eq-eqb f.number 0 e) in absurd (omega arith)

pub sheet_claims : SheetClaims
unfolding sheet_answer
sheet_claims =
    record {
      pieces = λ ps. ap answer_of (fed_all_lem start_of ps) ∙ whole (joined ps);
      settled = λ r ps h. ap answer_of (fed_all_lem r ps ∙ fold-stopped r (joined ps) h);
      accepted = λ text e. answer_passes (refusal_of (said text)) (grid_in (said text)) (order_in (said text)) (passes (said text)) e;
    }
