-- The claims of specs/Claims. Assumes nothing.
use Prim.Native.Nat.{ℕ}
use mathlib.Core.Path.{◌≡◌, refl, ◌∙◌}
use mathlib.Core.List.{List, [], ◌∷◌, ◌++◌, foldl-append}
use Rattle.grid.specs.declared.parts.DcCable.{DcCable}
use Rattle.conductances.specs.Conductances.{joined, entry}
use Rattle.conductance_claims.specs.Claims.{MatrixClaims}
use Rattle.conductances.proofs.Entries.{matrix-cell, entry_swaps}

one_more : (n i j : ℕ) (cables : List DcCable) (c : DcCable) → entry n (cables ++ (c ∷ [])) i j ≡ joined n i j (entry n cables i j) c
unfolding entry
one_more n i j cables c = rw foldl-append

pub matrix_claims : MatrixClaims
unfolding entry
matrix_claims =
    record {
      none = λ n i j. refl;
      last = one_more;
      skipped = λ n i j cables c out. one_more n i j cables c ∙ rw out;
      placed = λ n i j cables li lj. matrix-cell n cables i j li lj;
      symmetric = λ n i j cables. entry_swaps n cables i j;
    }
