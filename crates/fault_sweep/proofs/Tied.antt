-- What a caller learns from the contract in src/, as Rattle reads its clauses, is a call as the claims of `sweep_claims` speak of it, and nothing is asked of the caller.
-- Assumes nothing.
use Prim.Native.Nat.{ℕ}
use mathlib.Core.Path.{ap}
use contract.Lifetimes.{Lfts}
use borrow.Fn.World.{ArgsD, ResD}
use borrow.Fn.Kinds.{ended_of}
use denote.Triple.Clauses.{AtExit}
use Rattle.portions.specs.Calls.{Called, Made}
use Rattle.fault_sweep.specs.declared.sweep.Sweep.{Sweep}
use Rattle.fault_sweep.specs.Advance.{sweep_stepper, advanced_sweep}
use Rattle.fault_sweep.specs.contracts.sweep.Sweep.advance as advance-contract
use Rattle.fault_sweep.proofs.sweep.Sweep.advance.Kinds as advance-kinds
use Rattle.fault_sweep.proofs.sweep.Sweep.advance.Reads as advance-reads

module _ (κs : Lfts 1) (a : ArgsD advance-contract.signature κs) (r : ResD advance-contract.signature κs) (e : AtExit (ended_of 1 advance-kinds.ps advance-kinds.r) κs) where
  pub advance_any : advance-reads.Asked κs a
  advance_any = tt

  -- the call, as the claims speak of it
  abbrev pub call : Called ℕ Sweep
  call = record { allowance = a.1.0; lent = a.1.1.0.now; steps = r.steps; count = r.rows; stop = r.stop; kept = r.sweep; left = e.1.1.0.now }

  pub advance_made : advance-reads.Learnt κs a r e → Made sweep_stepper a.0 call
  unfolding advanced_sweep
  advance_made h =
      record {
        steps_is = ap (λ x. x.steps) h.0;
        count_is = ap (λ x. x.rows) h.0;
        stop_is = ap (λ x. x.stop) h.0;
        kept_is = ap (λ x. x.sweep) h.0;
        left_is = h.1;
      }
