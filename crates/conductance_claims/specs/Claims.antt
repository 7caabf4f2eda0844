-- What document 01.2 says of the conductances in words, and what a reader expects beside the definitions. The proofs are in proofs/Claims.antt.
use Rattle.std.specs.Prelude.{ℕ, ◌<◌, ◌≡◌, false, List, [], ◌∷◌, ◌++◌}
use Rattle.float64.specs.Constants.{nought}
use Rattle.grid.specs.declared.parts.DcCable.{DcCable}
use Rattle.conductances.specs.Conductances.{within, joined, entry, cell, matrix}

-- the conductances are built in the cables' order: from zero, and the last cable last
pub record MatrixClaims : Type 0 where
  pub none : (n i j : ℕ) → entry n [] i j ≡ nought
  pub last : (n i j : ℕ) (cables : List DcCable) (c : DcCable) → entry n (cables ++ (c ∷ [])) i j ≡ joined n i j (entry n cables i j) c
  pub skipped : (n i j : ℕ) (cables : List DcCable) (c : DcCable) → within n c ≡ false → entry n (cables ++ (c ∷ [])) i j ≡ entry n cables i j
  -- an entry stands in its row and column
  pub placed : (n i j : ℕ) (cables : List DcCable) → i < 32 → j < 32 → cell (matrix n cables) i j ≡ entry n cables i j
  pub symmetric : (n i j : ℕ) (cables : List DcCable) → entry n cables i j ≡ entry n cables j i
