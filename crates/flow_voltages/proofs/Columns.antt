-- Currents added up column by column are those added up along the rows. Assumes nothing.
use Prim.Native.Nat.{ℕ, ◌+◌, ◌≤◌, ◌<◌}
use mathlib.Core.Path.{◌≡◌, ◌∙◌}
use mathlib.Core.List.{List}
use native.Mathlib.Numerals.{add-one}
use lib.Ieee.{Float, nan}
use Rattle.lists.specs.Tables.{blank, over, padded}
use Rattle.lists.proofs.Fills.{over-padded, blank-padded, padded_same, get_d_padded}
use Rattle.float64.specs.Constants.{nought}
use Rattle.float64.specs.Arithmetic.{◌⊕◌, ◌⊗◌, sum_of, of}
use Rattle.conductances.specs.Conductances.{cell}
use Rattle.conductances.specs.Symmetric.{Symmetric}

-- the sums of the first j products of each row
abbrev pub part_sums : List Float → ℕ → List Float → ℕ → List Float
part_sums m n v j = padded 32 n (λ i. sum_of (λ k. cell m i k ⊗ of v k) j) nought

-- one entry of it
column_at : (m : List Float) (n : ℕ) (v : List Float) (j : ℕ) → n ≤ 32 → Symmetric n m → j < n → (i : ℕ) → i < n
    → of (part_sums m n v j) i ⊕ cell m j i ⊗ of v j ≡ sum_of (λ k. cell m i k ⊗ of v k) (j + 1)
column_at m n v j l s lj i li =
    rw (add-one, get_d_padded 32 n (λ q. sum_of (λ k. cell m q k ⊗ of v k) j) nought nan i li l, s j i lj li)

-- one column more
pub column_more : (m : List Float) (n : ℕ) (v : List Float) (j : ℕ) → n ≤ 32 → Symmetric n m → j < n
    → over n (λ i. of (part_sums m n v j) i ⊕ cell m j i ⊗ of v j) nan (part_sums m n v j) ≡ part_sums m n v (j + 1)
column_more m n v j l s lj =
    over-padded 32 n (λ i. sum_of (λ k. cell m i k ⊗ of v k) j) (λ i. of (part_sums m n v j) i ⊕ cell m j i ⊗ of v j) nought nan
    ∙ padded_same 32 n _ (λ i. sum_of (λ k. cell m i k ⊗ of v k) (j + 1)) nought (column_at m n v j l s lj)

pub column_none : (m : List Float) (n : ℕ) (v : List Float) → blank 32 nought ≡ part_sums m n v 0
column_none m n v = blank-padded 32 n nought
