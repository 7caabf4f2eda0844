-- The claim speaks of what the code returns: what a caller learns from the contract of real_at, as Rattle reads its clauses, gives the claim of the result. Assumes nothing.
use Prim.Native.Nat.{ℕ, ◌^◌}
use mathlib.Core.Path.{◌≡◌, refl, sym, ◌∙◌, subst}
use native.Mathlib.Omega.{arith}
use mathlib.Core.List.{List}
use contract.Lifetimes.{Lfts}
use borrow.Fn.World.{ArgsD, ResD}
use borrow.Fn.Kinds.{ended_of}
use denote.Triple.Clauses.{AtExit}
use lib.ListN.{take, drop}
use lib.Ieee.{Float}
use Rattle.std.specs.Prelude.{Option, Some, None}
use Rattle.field_columns.specs.Fields.{field_of, as_real, real_of, value_of}
use Rattle.field_columns.specs.declared.fields.Decimal.{Decimal}
use Rattle.rounding.specs.Nearest.{NearestDouble}
use Rattle.field_values.specs.contracts.real_at as real-at-contract
use Rattle.field_values.proofs.real_at.Kinds as real-at-kinds
use Rattle.field_values.proofs.real_at.Reads as real-at-reads
use Rattle.column_claims.proofs.Claims.{field_claims}

-- a double that is read is the value of the field's number
value_of_lem : (cs : List ℕ) (x : Float) → real_of cs ≡ Some x → (d : Decimal) × (field_of cs ≡ Some d) × (x ≡ value_of d)
unfolding real_of
value_of_lem cs x h = go (field_of cs) refl h
  where
    go : (f : Option Decimal) → field_of cs ≡ f → as_real f ≡ Some x → (d : Decimal) × (field_of cs ≡ Some d) × (x ≡ value_of d)
    go (Some d) q h = (d, q, cc)
    go None q h = let z : ◌≡◌ {A = ℕ} 0 1 = cc in absurd (omega arith)

module _ (κs : Lfts 1) (a : ArgsD real-at-contract.signature κs) (r : ResD real-at-contract.signature κs) (e : AtExit (ended_of 1 real-at-kinds.ps real-at-kinds.r) κs) where
  -- a double that is returned is the nearest to the number in the columns
  pub real_at_nearest : real-at-reads.Learnt κs a r e → (x : Float) → r ≡ Some x
      → (d : Decimal) × (field_of (take 12 (drop a.1.0 a.0.now)) ≡ Some d) × NearestDouble d.digits (10 ^ d.places) x
  real_at_nearest h x q =
      let v = value_of_lem (take 12 (drop a.1.0 a.0.now)) x (sym h ∙ q) in
      (v.0, v.1, subst (λ (y : Float). NearestDouble v.0.digits (10 ^ v.0.places) y) (sym v.2) (field_claims.nearest (take 12 (drop a.1.0 a.0.now)) v.0 v.1))
