-- The claims speak of what the code returns: what a caller learns from a contract in `fault_sweep` or `sweep_start`, as Rattle reads its clauses, gives the claim of the result.
-- Assumes nothing.
use mathlib.Core.Path.{◌≡◌, refl, sym, ap, ◌∙◌}
use mathlib.Core.Bool.{true}
use borrow.Author.Tests.{ne_eqb}
use mathlib.Core.List.{[]}
use Rattle.std.specs.Prelude.{Ok}
use Rattle.std.specs.Result.{result_unwrap_or}
use Rattle.std.proofs.lemmas.Result.{IfOk-at_ok}
use contract.Lifetimes.{Lfts}
use borrow.Fn.World.{ArgsD, ResD}
use borrow.Fn.Kinds.{ended_of}
use denote.Triple.Clauses.{AtExit}
use Rattle.rules.specs.Studies.{number_of}
use Rattle.rules.proofs.Outcomes.{ok_at, accepted_at, unwrapped}
use Rattle.portions.specs.Calls.{Chain, last, and}
use Rattle.portions.specs.Refusals.{RefusedIf}
use Rattle.portions.proofs.Course.{chain_and}
use Rattle.power_flow.specs.Flow.{solution_of}
use Rattle.fault_sweep.specs.declared.sweep.Sweep.{Sweep}
use Rattle.fault_sweep.specs.KeptSweep.{sweep_after}
use Rattle.fault_sweep.specs.Advance.{sweep_broken, sweep_stepper}
use Rattle.fault_sweep.proofs.Tied.{call, advance_made}
use Rattle.fault_sweep.specs.contracts.sweep.Sweep.advance as advance-contract
use Rattle.fault_sweep.proofs.sweep.Sweep.advance.Kinds as advance-kinds
use Rattle.fault_sweep.proofs.sweep.Sweep.advance.Reads as advance-reads
use Rattle.sweep_start.specs.Start.{blank_sweep, sweep_refused, started_sweep}
use Rattle.sweep_start.specs.contracts.start_sweep as start-contract
use Rattle.sweep_start.proofs.start_sweep.Kinds as start-kinds
use Rattle.sweep_start.proofs.start_sweep.Reads as start-reads
use Rattle.sweep_claims.specs.Claims.{Calls, Demand3, SweepBroken}
use Rattle.sweep_claims.proofs.Claims.{last_and, sweep_claims}
use Rattle.sweep_claims.proofs.Refusals.{start_claims, sweep_refusal_claims}

module _ (κs : Lfts 1) (a : ArgsD advance-contract.signature κs) (r : ResD advance-contract.signature κs) (e : AtExit (ended_of 1 advance-kinds.ps advance-kinds.r) κs) where
  -- behind calls from s that kept the sweep which is advanced
  pub advance_chained : (s : Sweep) (cs : Calls) → Chain sweep_stepper s cs → last s cs ≡ a.0 → advance-reads.Learnt κs a r e → Chain sweep_stepper s (and cs (call κs a r e))
  advance_chained s cs chain k h = chain_and sweep_stepper s cs (call κs a r e) chain (rw k (advance_made κs a r e h))

  pub advance-refused : advance-reads.Learnt κs a r e → RefusedIf (SweepBroken a.0) a.0 (call κs a r e)
  advance-refused h = sweep_refusal_claims.refused_if a.0 (call κs a r e) (advance_made κs a r e h)

-- Calls of `advance`, each a reading of its contract, and each handed the sweep that the one before returned.
pub data Advanced (s : Sweep) : Calls → Sweep → Type 0 where
  none : Advanced s [] s
  more : {cs : Calls} (κs : Lfts 1) (a : ArgsD advance-contract.signature κs) (r : ResD advance-contract.signature κs) (e : AtExit (ended_of 1 advance-kinds.ps advance-kinds.r) κs)
      → Advanced s cs a.0 → advance-reads.Learnt κs a r e → Advanced s (and cs (call κs a r e)) r.sweep

advanced_chain : (s : Sweep) (cs : Calls) (u : Sweep) → Advanced s cs u → Chain sweep_stepper s cs × (last s cs ≡ u)
unfolding last
advanced_chain s cs u none = (tt, refl)
advanced_chain s cs u (more {cs = ds} κs a r e before h) =
    let q = advanced_chain s ds a.0 before in
    (advance_chained κs a r e s ds q.0 q.1 h, last_and s ds (call κs a r e))

module _ (κs : Lfts 0) (a : ArgsD start-contract.signature κs) (r : ResD start-contract.signature κs) (e : AtExit (ended_of 0 start-kinds.ps start-kinds.r) κs) where
  -- one that is accepted is kept after 0 steps
  pub start_accepted : start-reads.Learnt κs a r e → number_of r ≡ 0 → r ≡ Ok (sweep_after a.0 a.1.0 (solution_of a.0) 0)
  start_accepted h z = ok_at r _ z (rw (← start_claims.started a.0 a.1.0 (sym h.0 ∙ z)) h.1)

  -- with a sweep of zeros in the place of the one that a refused start does not have, which every advance refuses
  pub start_unwrapped : start-reads.Learnt κs a r e → result_unwrap_or r blank_sweep ≡ started_sweep a.0 a.1.0
  unfolding started_sweep
  start_unwrapped h = unwrapped r _ blank_sweep h.1 (λ n. rw (ne_eqb (sweep_refused a.0 a.1.0) 0 (λ z. n (h.0 ∙ z))) refl)

  pub not_started : start-reads.Learnt κs a r e → (sweep_refused a.0 a.1.0 ≡ 0 → ⊥) → sweep_broken (result_unwrap_or r blank_sweep) ≡ true
  not_started h n = ap sweep_broken (start_unwrapped h) ∙ start_claims.not_started a.0 a.1.0 n

  -- demand 3, of any calls of the sweep that is returned
  pub start_swept : start-reads.Learnt κs a r e → (s : Sweep) → r ≡ Ok s → (cs : Calls) (u : Sweep) → Advanced s cs u → Demand3 a.0 a.1.0 cs
  start_swept h s started cs u calls =
      let is : s ≡ started_sweep a.0 a.1.0 = IfOk-at_ok (λ x. x ≡ started_sweep a.0 a.1.0) started h.1 in sweep_claims.demand3 a.0 a.1.0 (sym h.0 ∙ accepted_at started) cs (rw is at (advanced_chain s cs u calls).0)
