-- The claims of E, S and C, tied to what their functions promise: each asks for nothing, and of its result the claim holds. Assumes nothing.
use mathlib.Core.Path.{sym, subst}
use contract.Lifetimes.{Lfts}
use borrow.Fn.World.{ArgsD, ResD}
use borrow.Fn.Kinds.{ended_of}
use denote.Triple.Clauses.{AtExit}
use lib.Dec.{T}
use lib.Ieee.{Float, le}
use Rattle.float64.specs.Constants.{nought, one}
use Rattle.elementary.specs.Claims.{InUnit}
use Rattle.elementary.proofs.Claims.{exponential_claims, wave_claims}
use Rattle.elementary.specs.contracts.exponential.exp as exp-contract
use Rattle.elementary.proofs.exponential.exp.Kinds as exp-kinds
use Rattle.elementary.proofs.exponential.exp.Reads as exp-reads
use Rattle.elementary.specs.contracts.wave.sin as sin-contract
use Rattle.elementary.proofs.wave.sin.Kinds as sin-kinds
use Rattle.elementary.proofs.wave.sin.Reads as sin-reads
use Rattle.elementary.specs.contracts.wave.cos as cos-contract
use Rattle.elementary.proofs.wave.cos.Kinds as cos-kinds
use Rattle.elementary.proofs.wave.cos.Reads as cos-reads
use Rattle.elementary.specs.contracts.wave.reduced_angle as angle-contract
use Rattle.elementary.proofs.wave.reduced_angle.Reads as angle-reads

module _ (κs : Lfts 0) (a : ArgsD exp-contract.signature κs) (r : ResD exp-contract.signature κs) (e : AtExit (ended_of 0 exp-kinds.ps exp-kinds.r) κs) where
  pub exp_any : exp-reads.Asked κs a
  exp_any = tt

  pub exp_between : exp-reads.Learnt κs a r e → T (le a.0 nought) → T (le nought r) × T (le r one)
  exp_between h k = subst (λ (y : Float). T (le nought y) × T (le y one)) (sym h) (exponential_claims.between a.0 k)

module _ (κs : Lfts 0) (a : ArgsD sin-contract.signature κs) (r : ResD sin-contract.signature κs) (e : AtExit (ended_of 0 sin-kinds.ps sin-kinds.r) κs) where
  pub sin_any : sin-reads.Asked κs a
  sin_any = tt

  pub sin_unit : sin-reads.Learnt κs a r e → InUnit r
  sin_unit h = subst InUnit (sym h) (wave_claims.sine a.0)

module _ (κs : Lfts 0) (a : ArgsD cos-contract.signature κs) (r : ResD cos-contract.signature κs) (e : AtExit (ended_of 0 cos-kinds.ps cos-kinds.r) κs) where
  pub cos_any : cos-reads.Asked κs a
  cos_any = tt

  pub cos_unit : cos-reads.Learnt κs a r e → InUnit r
  cos_unit h = subst InUnit (sym h) (wave_claims.cosine a.0)

module _ (κs : Lfts 0) (a : ArgsD angle-contract.signature κs) where
  pub angle_any : angle-reads.Asked κs a
  angle_any = tt
