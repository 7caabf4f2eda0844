-- The claims speak of what the code returns: what a caller learns from the contract of `decimal_column`, as Rattle reads its clauses, gives the claims of the result. Assumes nothing.
use Prim.Native.Nat.{ℕ, ◌*◌, ◌^◌, ◌<◌}
use mathlib.Core.Path.{◌≡◌, sym, ◌∙◌, subst}
use mathlib.Core.Logic.{◌↔◌}
use mathlib.Core.Bool.{Bool}
use mathlib.Core.List.{List}
use contract.Lifetimes.{Lfts}
use borrow.Fn.World.{ArgsD, ResD}
use borrow.Fn.Kinds.{ended_of}
use denote.Triple.Clauses.{AtExit}
use lib.Ieee.Exact.{HasValue}
use Rattle.decimals.specs.Decimals.{stars}
use Rattle.decimals.specs.contracts.decimal_column as column-contract
use Rattle.decimals.proofs.decimal_column.Kinds as column-kinds
use Rattle.decimals.proofs.decimal_column.Reads as column-reads
use Rattle.decimal_claims.specs.Claims.{NearestWhole, Spells, Starred}
use Rattle.decimal_claims.proofs.Claims.{decimal_claims}

module _ (κs : Lfts 0) (a : ArgsD column-contract.signature κs) (r : ResD column-contract.signature κs) (e : AtExit (ended_of 0 column-kinds.ps column-kinds.r) κs) where
  pub column_any : column-reads.Asked κs a
  column_any = tt

  pub column_starred : column-reads.Learnt κs a r e → (r ≡ stars) ↔ Starred a.0
  column_starred h = let s = decimal_claims.starred a.0 in (λ p. s.0 (sym h ∙ p), λ p. h ∙ s.1 p)

  pub column_spelled : column-reads.Learnt κs a r e → (negative : Bool) (n d : ℕ) → 0 < d → HasValue a.0 negative n d → (Starred a.0 → ⊥) → (q : ℕ) × NearestWhole (n * 10 ^ 6) d q × Spells r negative q
  column_spelled h s n d D v p =
      let c = decimal_claims.spelled a.0 s n d D v p in
      (c.0, c.1, subst (λ (t : List ℕ). Spells t s c.0) (sym h) c.2)
