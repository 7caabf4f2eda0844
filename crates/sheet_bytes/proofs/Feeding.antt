-- One lemma for each way through a byte, and what follows a sheet that has stopped. Assumes nothing.
use Rattle.std.proofs.Common.{None}
use Prim.Native.Nat.{ℕ, ◌+◌, ◌<◌, ◌≤◌}
use mathlib.Core.Path.{◌≡◌, refl, sym, ◌∙◌, ap}
use mathlib.Core.Bool.{true, false}
use mathlib.Core.List.{List, [], ◌∷◌, foldl, foldl-append}
use lib.ListN.{length, take, drop, set, get_or, take-append-drop}
use borrow.Author.Tests.{eq-eqb, ne_eqb, lt-ltb, le-ltb}
use Rattle.lists.proofs.Folds.{fold_more}
use Rattle.sheet_lines.specs.Lines.{line_of}
use Rattle.line_order.specs.Ordered.{line_refusal}
use Rattle.taken_lines.specs.Taken.{stopped_at, refused_by, with_line}
use Rattle.sheet_bytes.specs.Bytes.{longest, stopped_in, byte_taken, ended_of}
use Rattle.taken_lines.specs.declared.taken.Sheet.{Sheet}
use Rattle.sheet_bytes.specs.declared.bytes.Reading.{Reading}

-- ---- a byte

module _ (r : Reading) (b : ℕ) (going : stopped_in r ≡ false) where
  pub kept_way : r.length < longest → (b ≡ 10 → ⊥) → record { sheet = r.sheet; line = set r.line r.length b; length = r.length + 1 } ≡ byte_taken r b
  unfolding byte_taken
  kept_way h k = rw (going, lt-ltb r.length longest h, ne_eqb b 10 k)

  pub line_way : r.length < longest → b ≡ 10 → (s : Sheet) → s ≡ with_line r.sheet (line_of (take (r.length + 1) (set r.line r.length b)))
      → record { sheet = s; line = set r.line r.length b; length = 0 } ≡ byte_taken r b
  unfolding byte_taken
  line_way h k s e = rw (going, lt-ltb r.length longest h, eq-eqb b 10 k, e)

  pub long_way : longest ≤ r.length → (s : Sheet) → s ≡ with_line r.sheet None → record { sheet = s; line = r.line; length = r.length } ≡ byte_taken r b
  unfolding byte_taken
  long_way h s e = rw (going, le-ltb r.length longest h, e)

-- ---- a line of wrong form stops the sheet

pub wrong_is : (s : Sheet) → stopped_at s ≡ false → with_line s None ≡ refused_by s 12
unfolding with_line line_refusal
wrong_is s h = rw h

pub wrong_stops : (s : Sheet) → stopped_at s ≡ false → stopped_at (with_line s None) ≡ true
unfolding stopped_at
wrong_stops s h = ap stopped_at (wrong_is s h)

-- ---- nothing follows a sheet that has stopped

pub step_stopped : (r : Reading) (b : ℕ) → stopped_in r ≡ true → byte_taken r b ≡ r
unfolding byte_taken
step_stopped r b h = rw h

pub fold-stopped : (r : Reading) (bs : List ℕ) → stopped_in r ≡ true → foldl byte_taken r bs ≡ r
fold-stopped r [] h = refl
fold-stopped r (b ∷ bs) h = ap (λ t. foldl byte_taken t bs) (step_stopped r b h) ∙ fold-stopped r bs h

pub stays : (r t : Reading) (piece : List ℕ) (i : ℕ) → t ≡ foldl byte_taken r (take i piece) → stopped_in t ≡ true → t ≡ foldl byte_taken r piece
stays r t piece i e h =
    sym (fold-stopped t (drop i piece) h)
    ∙ ap (λ x. foldl byte_taken x (drop i piece)) e
    ∙ sym (foldl-append byte_taken r (take i piece) (drop i piece))
    ∙ ap (foldl byte_taken r) (take-append-drop i piece)

-- a byte more of a piece
pub on : (r t u : Reading) (piece : List ℕ) (i : ℕ) → i < length piece → t ≡ foldl byte_taken r (take i piece) → u ≡ byte_taken t (get_or piece i 0) → u ≡ foldl byte_taken r (take (i + 1) piece)
on r t u piece i h e k = k ∙ ap (λ x. byte_taken x (get_or piece i 0)) e ∙ sym (fold_more byte_taken r 0 piece i h)

-- ---- the end of the input

pub ended_empty : (r : Reading) → r.length ≡ 0 → r.sheet ≡ ended_of r
unfolding ended_of
ended_empty r h = rw (eq-eqb r.length 0 h)

pub ended_open : (r : Reading) → (r.length ≡ 0 → ⊥) → with_line r.sheet None ≡ ended_of r
unfolding ended_of
ended_open r h = rw (ne_eqb r.length 0 h)
