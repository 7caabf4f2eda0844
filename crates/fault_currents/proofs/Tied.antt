-- What a caller learns from the contract in src/, as Rattle reads its clauses, is the claim of each lane, and nothing is asked of the caller. Assumes nothing.
use mathlib.Core.Path.{◌≡◌, sym, ap, ◌∙◌}
use Prim.Native.Nat.{ℕ, ◌<◌}
use lib.Ieee.{Float}
use contract.Lifetimes.{Lfts}
use borrow.Fn.World.{ArgsD, ResD}
use borrow.Fn.Kinds.{ended_of}
use denote.Triple.Clauses.{AtExit}
use Rattle.float64.specs.Arithmetic.{◌⊗◌, of}
use Rattle.fault_current.specs.Current.{current_of}
use Rattle.lanes.proofs.Lanes.{lane_of}
use Rattle.fault_currents.specs.Sites.{site_current}
use Rattle.fault_currents.proofs.Claims.{site_claims}
use Rattle.fault_currents.specs.contracts.sites.site_currents_ka as site-contract
use Rattle.fault_currents.proofs.sites.site_currents_ka.Kinds as site-kinds
use Rattle.fault_currents.proofs.sites.site_currents_ka.Reads as site-reads

module _ (κs : Lfts 2) (a : ArgsD site-contract.signature κs) (r : ResD site-contract.signature κs) (e : AtExit (ended_of 2 site-kinds.ps site-kinds.r) κs) where
  pub site_any : site-reads.Asked κs a
  site_any = tt

  -- a lane times the factor of the fault's type is the fault's current at its time
  pub site_typed : site-reads.Learnt κs a r e → (j : ℕ) → j < 16 → current_of a.1.0 (of a.1.1.0.now j) ≡ of e.0.now j ⊗ a.1.0.type_factor
  site_typed h j l = site_claims.typed a.1.0 (of a.1.1.0.now j) ∙ ap (λ (i : Float). i ⊗ a.1.0.type_factor) (sym (lane_of 16 (λ k. site_current a.1.0 (of a.1.1.0.now k)) j l h))
