-- One turn of each loop over the stations. Assumes nothing.
use Prim.Native.Nat.{ℕ, ◌-◌, ◌≤◌}
use mathlib.Core.Path.{◌≡◌, refl, sym, ◌∙◌}
use mathlib.Core.Bool.{cond}
use mathlib.Core.List.{List}
use mathlib.Core.Logic.{⊎_elim}
use native.Mathlib.Omega.{arith}
use borrow.Author.Tests.{ne_eqb}
use lib.Dec.{eqb}
use lib.Ieee.{Float}
use Rattle.lists.specs.Tables.{blank}
use Rattle.lists.proofs.Counting.{at_end_lem, eq_or_ne}
use Rattle.lists.proofs.Fills.{upto, upto_first, upto_padded, blank-padded, padded_same}
use Rattle.float64.specs.Constants.{nought}
use Rattle.flow_voltages.specs.Balance.{but_first}

-- a station after the first is not the first
pub later : (f : ℕ → Float) (i : ℕ) → 1 ≤ i → f i ≡ cond (eqb i 0) nought (f i)
later f i l = rw (ne_eqb i 0 (λ e. omega arith))

-- what a loop over the stations after the first has filled, where it is left; of no stations too
pub filled : (n i : ℕ) (f : ℕ → Float) {d : List Float} → n ≤ 32 → 1 ≤ i → i - 1 ≤ n - 1 → n ≤ i → d ≡ upto i (λ k. cond (eqb k 0) nought (f k)) (blank 32 nought) → d ≡ but_first n f
unfolding but_first
filled n i f h o a b e = ⊎_elim
    (λ z. let j : i ≡ 1 = omega arith in
    e ∙ rw j (sym (upto_first 32 (λ k. cond (eqb k 0) nought (f k)) nought refl) ∙ blank-padded 32 n nought ∙ padded_same 32 n (λ k. nought) (λ k. cond (eqb k 0) nought (f k)) nought (λ k l. absurd (omega (arith, l)))))
    (λ z. at_end_lem (λ k. upto k (λ q. cond (eqb q 0) nought (f q)) (blank 32 nought)) (omega arith) b e ∙ upto_padded n 32 (λ k. cond (eqb k 0) nought (f k)) nought h)
    (eq_or_ne n 0)
