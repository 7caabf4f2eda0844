-- Stores from the right to the left. Assumes nothing.
use Prim.Native.Nat.{ℕ, zero, suc, ◌+◌, ◌-◌, ◌/◌, ◌<◌}
use mathlib.Core.Path.{◌≡◌, refl, sym, ◌∙◌, ap}
use mathlib.Core.List.{List, [], ◌∷◌, ◌++◌}
use native.Mathlib.Omega.{arith}
use native.Mathlib.Nat.{add-zero, add-suc, suc-add}
use native.Mathlib.Numerals.{sub-one, add-one}
use lib.ListN.{length, set, length-append}
use lib.Seq.{sets, set_comm}
use Rattle.printed_numbers.specs.Glyphs.{glyph_of}

pub sets_snoc : (l : List ℕ) (i : ℕ) (vs : List ℕ) (g : ℕ) → sets l i (vs ++ (g ∷ [])) ≡ sets (set l (i + length vs) g) i vs
sets_snoc l i [] g = rw add-zero
sets_snoc l i (a ∷ vs) g =
    sets_snoc (set l i a) (suc i) vs g
    ∙ ap (λ k. sets k (suc i) vs) (set_comm l i (suc i + length vs) a g (omega arith) ∙ ap (λ k. set (set l k g) i a) (suc-add i (length vs) ∙ sym (add-suc i (length vs))))

-- the j columns left of the last one
abbrev pub cells : ℕ → ℕ → List ℕ
cells zero rest = []
cells (suc j) rest = cells j (rest / 10) ++ (glyph_of rest ∷ [])

pub length_cells : (j rest : ℕ) → length (cells j rest) ≡ j
length_cells zero rest = refl
length_cells (suc j) rest = length-append (cells j (rest / 10)) (glyph_of rest ∷ []) ∙ rw (length_cells j (rest / 10), add-one)

pub cells_step : (out : List ℕ) (at j rest : ℕ) → 0 < j → sets (set out (at + (j - 1)) (glyph_of rest)) at (cells (j - 1) (rest / 10)) ≡ sets out at (cells j rest)
cells_step out at zero rest h = absurd (omega arith)
cells_step out at (suc j) rest h =
    rw (sub-one, sets_snoc out at (cells j (rest / 10)) (glyph_of rest), length_cells)
