-- A sheet read byte by byte is the sheet of the lines of its text. Assumes nothing.
use Rattle.std.proofs.Common.{None}
use Prim.Native.Nat.{ℕ, zero, suc, ◌+◌, ◌<◌, ◌≤◌}
use mathlib.Core.Path.{◌≡◌, refl, sym, ◌∙◌, ap}
use mathlib.Core.Bool.{Bool, true, false, not, cond}
use mathlib.Core.List.{List, [], ◌∷◌, ◌++◌, map, foldl, append_assoc}
use native.Mathlib.Omega.{arith}
use native.Mathlib.Numerals.{add-one}
use lib.Dec.{eqb, ltb}
use lib.ListN.{length, take, set, length-set, length-append}
use lib.Seq.{length-take-le, take-suc-set}
use borrow.Author.Tests.{eq-eqb, eqb-true, ltb-true, ltb-false}
use Rattle.lists.proofs.Scanning.{left, right, both}
use Rattle.sheet_lines.specs.Lines.{line_of}
use Rattle.sheet_lines.proofs.WrongLines.{feedless, too_long as too_long_lem, unended}
use Rattle.whole_sheets.specs.Sheets.{before, lines_of, most_lines, said, grid_in, order_in, refusal_of, answered, sheet_answer}
use Rattle.taken_lines.specs.Taken.{empty_sheet, stopped_at, with_line}
use Rattle.sheet_bytes.specs.Bytes.{longest, start_of, stopped_in, line_taken, byte_kept, too_long, byte_taken, ended_of}
use Rattle.sheet_answers.specs.Answers.{refusal_in, answer_of}
use Rattle.taken_lines.specs.declared.taken.Sheet.{Sheet}
use Rattle.sheet_bytes.specs.declared.bytes.Reading.{Reading}
use Rattle.taken_lines.proofs.Ways.{stopped_way}
use Rattle.sheet_bytes.proofs.Feeding.{kept_way, line_way, long_way, wrong_stops, fold-stopped, ended_empty, ended_open}
use Rattle.sheet.proofs.Judged.{lines_stopped, lines_judged}

-- ---- the bytes of a line that has not ended, in front of the lines that come

abbrev pending : List ℕ → List (List ℕ)
pending [] = []
pending (x ∷ p) = (x ∷ p) ∷ []

abbrev attach : List ℕ → List (List ℕ) → List (List ℕ)
attach p [] = pending p
attach p (l ∷ ls) = (p ++ l) ∷ ls

attach_nil : (ls : List (List ℕ)) → attach [] ls ≡ ls
attach_nil [] = refl
attach_nil (l ∷ ls) = refl

pending_some : (p : List ℕ) → 0 < length p → pending p ≡ p ∷ []
pending_some [] h = absurd (omega arith)
pending_some (x ∷ p) h = refl

attach_before : (p : List ℕ) (b : ℕ) (ls : List (List ℕ)) → attach (p ++ (b ∷ [])) ls ≡ attach p (before b ls)
attach_before p b [] = pending_some (p ++ (b ∷ [])) (rw length-append (omega arith))
attach_before p b (l ∷ ls) = ap (λ q. q ∷ ls) (append_assoc p (b ∷ []) l)

feedless_more : (p : List ℕ) (b : ℕ) → feedless p ≡ true → eqb b 10 ≡ false → feedless (p ++ (b ∷ [])) ≡ true
feedless_more [] b h e = both (not (eqb b 10)) true (ap not e) refl
feedless_more (x ∷ p) b h e = both (not (eqb x 10)) (feedless (p ++ (b ∷ []))) (left (not (eqb x 10)) (feedless p) h) (feedless_more p b (right (not (eqb x 10)) (feedless p) h) e)

-- ---- the sheet of lines

abbrev after : Sheet → List (List ℕ) → Sheet
after s ls = foldl with_line s (map line_of ls)

ended_stopped : (r : Reading) → stopped_in r ≡ true → ended_of r ≡ r.sheet
unfolding ended_of
ended_stopped r h = go (eqb r.length 0)
  where
    go : (t : Bool) → cond t r.sheet (with_line r.sheet None) ≡ r.sheet
    go true = refl
    go false = sym (stopped_way r.sheet None h)

-- the rest of the text, from any reading of which no line is refused
abbrev Rest : List ℕ → Type 0
Rest bs =
    (r : Reading) → stopped_in r ≡ false → length r.line ≡ longest → r.length ≤ longest → feedless (take r.length r.line) ≡ true
    → ended_of (foldl byte_taken r bs) ≡ after r.sheet (attach (take r.length r.line) (lines_of bs))

at_end_lem : Rest []
at_end_lem r g w i f = go r.length refl
  where
    go : (n : ℕ) → r.length ≡ n → ended_of r ≡ after r.sheet (pending (take r.length r.line))
    go zero e = sym (ended_empty r e) ∙ ap (λ k. after r.sheet (pending (take k r.line))) (sym e)
    go (suc n) e =
        sym (ended_open r (λ z. omega arith))
        ∙ ap (with_line r.sheet) (sym (unended (take r.length r.line) f))
        ∙ ap (after r.sheet) (sym (pending_some (take r.length r.line) (rw (length-take-le r.length r.line (omega arith)) (omega arith))))

-- ---- a line that is too long

spilled : (s : Sheet) (p : List ℕ) (b : ℕ) (l : List ℕ) (ls : List (List ℕ)) → length p ≡ longest → stopped_at s ≡ false → after s ((p ++ (b ∷ l)) ∷ ls) ≡ with_line s None
spilled s p b l ls h g =
    ap (λ x. foldl with_line (with_line s x) (map line_of ls)) (too_long_lem (p ++ (b ∷ l)) (rw length-append (omega arith)))
    ∙ lines_stopped (with_line s None) (map line_of ls) (wrong_stops s g)

spill : (s : Sheet) (p : List ℕ) (b : ℕ) (bs : List ℕ) → length p ≡ longest → stopped_at s ≡ false → after s (attach p (lines_of (b ∷ bs))) ≡ with_line s None
spill s p b bs h g = go (eqb b 10) (lines_of bs)
  where
    go : (t : Bool) (ls : List (List ℕ)) → after s (attach p (cond t ((b ∷ []) ∷ ls) (before b ls))) ≡ with_line s None
    go true ls = spilled s p b [] ls h g
    go false [] = spilled s p b [] [] h g
    go false (l ∷ ls) = spilled s p b l ls h g

-- ---- one byte, and the rest

front : (r : Reading) (b : ℕ) → length r.line ≡ longest → r.length < longest → take (r.length + 1) (set r.line r.length b) ≡ take r.length r.line ++ (b ∷ [])
front r b w i = rw add-one (take-suc-set r.line r.length b (omega arith))

module _ (b : ℕ) (bs : List ℕ) (ih : Rest bs) (r : Reading) (g : stopped_in r ≡ false) (w : length r.line ≡ longest) (f : feedless (take r.length r.line) ≡ true) where
  abbrev goal : List (List ℕ) → Type 0
  goal ls = ended_of (foldl byte_taken (byte_taken r b) bs) ≡ after r.sheet (attach (take r.length r.line) ls)

  too_much : longest ≤ r.length → r.length ≤ longest → goal (lines_of (b ∷ bs))
  too_much h i =
      let t = too_long r in
      let stop : stopped_in t ≡ true = wrong_stops r.sheet g in
      ap (λ x. ended_of (foldl byte_taken x bs)) (sym (long_way r b g h (with_line r.sheet None) refl))
      ∙ ap ended_of (fold-stopped t bs stop)
      ∙ ended_stopped t stop
      ∙ sym (spill r.sheet (take r.length r.line) b bs (length-take-le r.length r.line (omega arith) ∙ omega arith) g)

  other : eqb b 10 ≡ false → b ≡ 10 → ⊥
  other e z = let k : ◌≡◌ {A = ℕ} 1 0 = ap (λ x. cond x 1 0) (sym (eq-eqb b 10 z) ∙ e) in omega arith

  one_more : r.length < longest → eqb b 10 ≡ false → goal (before b (lines_of bs))
  one_more i e =
      let t = byte_kept r b in
      ap (λ x. ended_of (foldl byte_taken x bs)) (sym (kept_way r b g i (other e)))
      ∙ ih t g (length-set r.line r.length b ∙ w) (omega arith) (ap feedless (front r b w i) ∙ feedless_more (take r.length r.line) b f e)
      ∙ ap (λ p. after r.sheet (attach p (lines_of bs))) (front r b w i)
      ∙ ap (after r.sheet) (attach_before (take r.length r.line) b (lines_of bs))

  line_more : r.length < longest → b ≡ 10 → goal ((b ∷ []) ∷ lines_of bs)
  line_more i e = go (stopped_at (line_taken r b).sheet) refl
    where
      t : Reading
      t = line_taken r b

      taken : (x : List ℕ) → Sheet
      taken x = with_line r.sheet (line_of x)

      begun : ended_of (foldl byte_taken (byte_taken r b) bs) ≡ ended_of (foldl byte_taken t bs)
      begun = ap (λ x. ended_of (foldl byte_taken x bs)) (sym (line_way r b g i e t.sheet refl))

      go : (s : Bool) → stopped_at t.sheet ≡ s → goal ((b ∷ []) ∷ lines_of bs)
      go true h =
          begun
          ∙ ap ended_of (fold-stopped t bs h)
          ∙ ended_stopped t h
          ∙ sym (lines_stopped t.sheet (map line_of (lines_of bs)) h)
          ∙ ap (λ x. foldl with_line (taken x) (map line_of (lines_of bs))) (front r b w i)
      go false h =
          begun
          ∙ ih t h (length-set r.line r.length b ∙ w) (omega arith) refl
          ∙ ap (after t.sheet) (attach_nil (lines_of bs))
          ∙ ap (λ x. foldl with_line (taken x) (map line_of (lines_of bs))) (front r b w i)

onward : (b : ℕ) (bs : List ℕ) → Rest bs → Rest (b ∷ bs)
onward b bs ih r g w i f = go (ltb r.length longest) (eqb b 10) refl refl
  where
    go : (s u : Bool) → ltb r.length longest ≡ s → eqb b 10 ≡ u → ended_of (foldl byte_taken (byte_taken r b) bs) ≡ after r.sheet (attach (take r.length r.line) (lines_of (b ∷ bs)))
    go false u h e = too_much b bs ih r g w f (ltb-false r.length longest h) i
    go true true h e =
        line_more b bs ih r g w f (ltb-true r.length longest h) (eqb-true b 10 e)
        ∙ ap (λ x. after r.sheet (attach (take r.length r.line) (cond x ((b ∷ []) ∷ lines_of bs) (before b (lines_of bs))))) (sym e)
    go true false h e =
        one_more b bs ih r g w f (ltb-true r.length longest h) e
        ∙ ap (λ x. after r.sheet (attach (take r.length r.line) (cond x ((b ∷ []) ∷ lines_of bs) (before b (lines_of bs))))) (sym e)

rest : (bs : List ℕ) → Rest bs
rest [] = at_end_lem
rest (b ∷ bs) = onward b bs (rest bs)

-- ---- a whole text

start_open : stopped_in start_of ≡ false
unfolding start_of empty_sheet stopped_at
start_open = refl

start_sheet : start_of.sheet ≡ empty_sheet
unfolding start_of
start_sheet = refl

bytes_are_lines : (text : List ℕ) → ended_of (foldl byte_taken start_of text) ≡ after empty_sheet (lines_of text)
unfolding start_of
bytes_are_lines text = rest text start_of start_open refl (omega arith) refl ∙ ap (after empty_sheet) (attach_nil (lines_of text))

whole_of : (text : List ℕ) (k : ℕ) → k ≡ most_lines → answer_of (foldl byte_taken start_of text) ≡ answered (refusal_of (take k (map line_of (lines_of text)))) (grid_in (take k (map line_of (lines_of text)))) (order_in (take k (map line_of (lines_of text))))
unfolding answer_of
whole_of text k e = ap (λ s. answered (refusal_in s) s.grid s.order) (bytes_are_lines text) ∙ lines_judged (map line_of (lines_of text)) k e

-- the answer to what was read is the answer to its text
pub whole : (text : List ℕ) → answer_of (foldl byte_taken start_of text) ≡ sheet_answer text
unfolding sheet_answer said
whole text = whole_of text most_lines refl
