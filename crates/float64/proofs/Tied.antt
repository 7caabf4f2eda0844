-- The claims speak of what the code returns: what a caller learns from a contract in src/, as Rattle reads its clauses, gives the claim of the result, and nothing is asked of the caller.
-- Assumes nothing.
use mathlib.Core.Path.{◌≡◌, sym, ap, ◌∙◌, subst}
use mathlib.Core.Bool.{Bool, not}
use Prim.Native.Nat.{ℕ, ◌*◌, ◌/◌, ◌^◌, ◌<◌}
use contract.Lifetimes.{Lfts}
use borrow.Fn.World.{ArgsD, ResD}
use borrow.Fn.Kinds.{ended_of}
use denote.Triple.Clauses.{AtExit}
use lib.Dec.{T}
use lib.IntN.{ℤ}
use lib.Ieee.{Float, fin, binary64, up, down, fits, is_nan}
use lib.Ieee.Exact.{HasValue}
use Rattle.float64.specs.Pattern.{bits_of, double_of}
use Rattle.float64.specs.Whole.{whole_part}
use Rattle.float64.proofs.Claims.{whole_claims, pattern_claims}
use Rattle.float64.specs.contracts.choice.max as max-contract
use Rattle.float64.proofs.choice.max.Reads as max-reads
use Rattle.float64.specs.contracts.choice.min as min-contract
use Rattle.float64.proofs.choice.min.Reads as min-reads
use Rattle.float64.specs.contracts.choice.abs as abs-contract
use Rattle.float64.proofs.choice.abs.Reads as abs-reads
use Rattle.float64.specs.contracts.choice.clamp as clamp-contract
use Rattle.float64.proofs.choice.clamp.Reads as clamp-reads
use Rattle.float64.specs.contracts.angle.to_radians as to-radians-contract
use Rattle.float64.proofs.angle.to_radians.Reads as to-radians-reads
use Rattle.float64.specs.contracts.pattern.to_bits as to-bits-contract
use Rattle.float64.proofs.pattern.to_bits.Kinds as to-bits-kinds
use Rattle.float64.proofs.pattern.to_bits.Reads as to-bits-reads
use Rattle.float64.specs.contracts.pattern.from_bits as from-bits-contract
use Rattle.float64.proofs.pattern.from_bits.Kinds as from-bits-kinds
use Rattle.float64.proofs.pattern.from_bits.Reads as from-bits-reads
use Rattle.float64.specs.contracts.trunc.whole_part as whole-part-contract
use Rattle.float64.proofs.trunc.whole_part.Kinds as whole-part-kinds
use Rattle.float64.proofs.trunc.whole_part.Reads as whole-part-reads

-- of `max`, `min`, `abs`, `clamp` and `to_radians` there is no claim beside their definitions; they too ask for nothing
module _ (κs : Lfts 0) where
  pub max_any : (a : ArgsD max-contract.signature κs) → max-reads.Asked κs a
  max_any a = tt

  pub min_any : (a : ArgsD min-contract.signature κs) → min-reads.Asked κs a
  min_any a = tt

  pub abs_any : (a : ArgsD abs-contract.signature κs) → abs-reads.Asked κs a
  abs_any a = tt

  pub clamp_any : (a : ArgsD clamp-contract.signature κs) → clamp-reads.Asked κs a
  clamp_any a = tt

  pub to_radians_any : (a : ArgsD to-radians-contract.signature κs) → to-radians-reads.Asked κs a
  to_radians_any a = tt

module _ (κs : Lfts 0) (a : ArgsD whole-part-contract.signature κs) (r : ResD whole-part-contract.signature κs) (e : AtExit (ended_of 0 whole-part-kinds.ps whole-part-kinds.r) κs) where
  pub whole_part_any : whole-part-reads.Asked κs a
  whole_part_any = tt

  pub whole_part_exact : whole-part-reads.Learnt κs a r e → (s : Bool) (m : ℕ) (d : ℤ) → a.0 ≡ fin s m d → T (fits binary64 (fin s m d)) → HasValue r s (m * up d / down d) 1
  whole_part_exact h s m d q F = subst (λ (y : Float). HasValue y s (m * up d / down d) 1) (sym (h ∙ ap whole_part q)) (whole_claims.whole s m d F)

module _ (κs : Lfts 0) (a : ArgsD to-bits-contract.signature κs) (r : ResD to-bits-contract.signature κs) (e : AtExit (ended_of 0 to-bits-kinds.ps to-bits-kinds.r) κs)
    (b : ArgsD from-bits-contract.signature κs) (s : ResD from-bits-contract.signature κs) (f : AtExit (ended_of 0 from-bits-kinds.ps from-bits-kinds.r) κs) where
  pub to_bits_any : to-bits-reads.Asked κs a
  to_bits_any = tt

  pub from_bits_any : from-bits-reads.Asked κs b
  from_bits_any = tt

  -- what `from_bits` makes of `to_bits`' answer is the double again
  pub bits_back : to-bits-reads.Learnt κs a r e → from-bits-reads.Learnt κs b s f → b.0 ≡ r → T (fits binary64 a.0) → s ≡ a.0
  bits_back h k q F = k ∙ ap double_of (q ∙ h) ∙ pattern_claims.back a.0 F

  -- and what `to_bits` makes of `from_bits`' answer is the pattern again, where that is no NaN
  pub bits_forth : from-bits-reads.Learnt κs b s f → to-bits-reads.Learnt κs a r e → a.0 ≡ s → b.0 < 2 ^ 64 → T (not (is_nan s)) → r ≡ b.0
  bits_forth k h q l n = h ∙ ap bits_of (q ∙ k) ∙ pattern_claims.forth b.0 l (subst (λ (y : Float). T (not (is_nan y))) k n)
