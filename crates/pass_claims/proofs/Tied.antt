-- The claims speak of what the code returns: what a caller learns from a contract of `flow_voltages`, as Rattle reads its clauses, gives the claim of the result.
-- Assumes nothing.
use mathlib.Core.Path.{◌≡◌, sym, ap, ◌∙◌}
use mathlib.Core.Bool.{true, false}
use contract.Lifetimes.{Lfts}
use borrow.Fn.World.{ArgsD, ResD}
use borrow.Fn.Kinds.{ended_of}
use denote.Triple.Clauses.{AtExit}
use Rattle.flow_voltages.specs.declared.voltages.Voltages.{Voltages}
use Rattle.pass_claims.specs.Claims.{Stops, Spent}
use Rattle.pass_claims.proofs.Claims.{pass_claims}
use Rattle.flow_voltages.specs.contracts.find_voltages as find-contract
use Rattle.flow_voltages.proofs.find_voltages.Kinds as find-kinds
use Rattle.flow_voltages.proofs.find_voltages.Reads as find-reads

module _ (κs : Lfts 0) (a : ArgsD find-contract.signature κs) (r : ResD find-contract.signature κs) (e : AtExit (ended_of 0 find-kinds.ps find-kinds.r) κs) where
  module _ (h : find-reads.Learnt κs a r e) where
    pub find_stops : r.converged ≡ true → Stops a.0 r
    find_stops t = rw h (pass_claims.converged a.0 (ap (λ (f : Voltages). f.converged) (sym h) ∙ t))

    pub find_spent : r.converged ≡ false → Spent a.0 r
    find_spent f = rw h (pass_claims.not_converged_lem a.0 (ap (λ (x : Voltages). x.converged) (sym h) ∙ f))
