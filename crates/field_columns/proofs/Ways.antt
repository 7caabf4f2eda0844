-- A field that the line is too short for is wrong. Assumes nothing.
use Prim.Native.Nat.{ℕ, ◌+◌, ◌<◌}
use mathlib.Core.Path.{◌≡◌, sym, ap}
use mathlib.Core.Bool.{cond}
use mathlib.Core.List.{List}
use native.Mathlib.Omega.{arith}
use lib.ListN.{length, take, drop, length-take, length-drop}
use Rattle.std.specs.Prelude.{None}
use borrow.Author.Tests.{ne_eqb}
use Rattle.field_columns.specs.Fields.{split, after_spaces, decimal_of, field_of}

pub too_short : (line : List ℕ) (at : ℕ) → length line < at + 12 → None ≡ field_of (take 12 (drop at line))
unfolding field_of
too_short line at h =
    let cs = take 12 (drop at line) in
    sym (ap (λ t. cond t (decimal_of (split (after_spaces cs))) None) (ne_eqb (length cs) 12 (λ e. short e)))
  where
    short : length (take 12 (drop at line)) ≡ 12 → ⊥
    short e = let k = simp (length-take, length-drop) at e in omega arith
