-- The claims speak of what the code returns: what a caller learns from a contract in src/, as Rattle reads its clauses, gives the claim of the result, and nothing is asked of the caller.
-- Assumes nothing.
use mathlib.Core.Path.{◌≡◌, sym, ap, ◌∙◌, subst}
use mathlib.Core.Logic.{◌⊎◌}
use contract.Lifetimes.{Lfts}
use borrow.Fn.World.{ArgsD, ResD}
use borrow.Fn.Kinds.{ended_of}
use denote.Triple.Clauses.{AtExit}
use lib.Dec.{T}
use lib.Ieee.{Float, binary64, fits, eq, le, mul}
use lib.Ieee.Scale.{finite}
use Rattle.float64.specs.Constants.{nought, two}
use Rattle.float64.specs.Choice.{abs_of}
use Rattle.square_root.specs.Root.{IsRoot, root_of}
use Rattle.square_root.specs.Claims.{least_squarable}
use Rattle.square_root.proofs.Claims.{root_claims}
use Rattle.square_root.specs.contracts.root.sqrt as sqrt-contract
use Rattle.square_root.proofs.root.sqrt.Kinds as sqrt-kinds
use Rattle.square_root.proofs.root.sqrt.Reads as sqrt-reads
use Rattle.square_root.specs.contracts.constants.root_of_two as two-contract
use Rattle.square_root.proofs.constants.root_of_two.Kinds as two-kinds
use Rattle.square_root.proofs.constants.root_of_two.Reads as two-reads

module _ (κs : Lfts 0) (a : ArgsD sqrt-contract.signature κs) (r : ResD sqrt-contract.signature κs) (e : AtExit (ended_of 0 sqrt-kinds.ps sqrt-kinds.r) κs) where
  pub sqrt_any : sqrt-reads.Asked κs a
  sqrt_any = tt

  pub sqrt_root : sqrt-reads.Learnt κs a r e → T (fits binary64 a.0) → IsRoot a.0 r
  sqrt_root h k = subst (λ (y : Float). IsRoot a.0 y) (sym h) (root_claims.nearest a.0 k)

  -- of the rounded square of y the code returns y, its sign cleared
  pub sqrt_of_square : sqrt-reads.Learnt κs a r e → (y : Float) → a.0 ≡ mul binary64 y y → T (fits binary64 y) → T (eq y nought) ⊎ T (le least_squarable (abs_of y)) → T (finite (mul binary64 y y)) → r ≡ abs_of y
  sqrt_of_square h y q F d G = h ∙ ap root_of q ∙ root_claims.of_square y F d G

module _ (κs : Lfts 0) (a : ArgsD two-contract.signature κs) (r : ResD two-contract.signature κs) (e : AtExit (ended_of 0 two-kinds.ps two-kinds.r) κs) where
  pub root_of_two_any : two-reads.Asked κs a
  root_of_two_any = tt

  pub root_of_two_root : two-reads.Learnt κs a r e → r ≡ root_of two
  root_of_two_root h = h ∙ sym root_claims.of_two
