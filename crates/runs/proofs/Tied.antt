-- Nothing is asked of a caller, and what a caller of `advance` learns is what the claims speak of, for runs of any kind. Assumes nothing.
use Prim.Native.Nat.{ℕ}
use mathlib.Core.Path.{ap}
use mathlib.Core.List.{Mem}
use lib.Ieee.{Float}
use contract.Lifetimes.{Lfts}
use borrow.Fn.World.{ArgsD, ResD}
use borrow.Fn.Kinds.{ended_of}
use denote.Param.Laws.{Laws, IsCopy}
use denote.RattleType.{RattleType}
use denote.Triple.Clauses.{AtExit}
use mir.Syntax.{Dict}
use Rattle.std.specs.declared.clone.Clone as clone
use Rattle.portions.specs.Calls.{Called, Made}
use Rattle.runs.specs.declared.stepping.Run as run-trait
use Rattle.runs.specs.Kinds.{run_stepper, advanced_run}
use Rattle.runs.specs.contracts.blank.blank_grid as grid-contract
use Rattle.runs.proofs.blank.blank_grid.Reads as grid-reads
use Rattle.runs.specs.contracts.blank.blank_state as state-contract
use Rattle.runs.proofs.blank.blank_state.Reads as state-reads
use Rattle.runs.specs.contracts.stepping.advance as advance-contract
use Rattle.runs.proofs.stepping.advance.Kinds as advance-kinds
use Rattle.runs.proofs.stepping.advance.Reads as advance-reads

module _ (κs : Lfts 0) (a : ArgsD grid-contract.signature κs) where
  pub grid_any : grid-reads.Asked κs a
  grid_any = tt

module _ (κs : Lfts 0) (a : ArgsD state-contract.signature κs) where
  pub state_any : state-reads.Asked κs a
  state_any = tt

-- a type of runs R and its type of plans P, with what Rattle hands a function that is generic in them
module _ (R P : RattleType) (R-laws : Laws R) (P-laws : Laws P) (R-copy : IsCopy R) (P-copy : IsCopy P) (run : run-trait.Ghosts R.Denot P.Denot) (run-dict : Dict)
    (R-clone : clone.Ghosts R.Denot) (R-clone-dict : Dict) (P-clone : clone.Ghosts P.Denot) (P-clone-dict : Dict)
    (κs : Lfts 3) (a : ArgsD (advance-contract.signature R P) κs) where
  -- but that the lifetimes in both types are the call's, which every call meets
  pub advance_any : ((n : ℕ) → Mem n R.lives → Mem n κs.1.0) → ((n : ℕ) → Mem n P.lives → Mem n κs.1.1.0)
      → advance-reads.Asked R P R-laws P-laws R-copy P-copy run run-dict R-clone R-clone-dict P-clone P-clone-dict κs a
  advance_any of_run of_plan = (of_run, of_plan)

  module _ (r : ResD (advance-contract.signature R P) κs) (e : AtExit (ended_of 3 (advance-kinds.ps R P R-laws P-laws R-copy P-copy) (advance-kinds.r R P R-laws P-laws R-copy P-copy)) κs) where
    -- the call, as the claims speak of it
    abbrev pub call : Called Float R.Denot
    call = record { allowance = a.1.0; lent = a.1.1.0.now; steps = r.steps; count = r.records; stop = r.stop; kept = r.run; left = e.1.1.0.now }

    pub advance_made : advance-reads.Learnt R P R-laws P-laws R-copy P-copy run run-dict R-clone R-clone-dict P-clone P-clone-dict κs a r e → Made (run_stepper run.kind) a.0 call
    unfolding advanced_run
    advance_made h =
        record {
          steps_is = ap (λ x. x.steps) h.0;
          count_is = ap (λ x. x.records) h.0;
          stop_is = ap (λ x. x.stop) h.0;
          kept_is = ap (λ x. x.run) h.0;
          left_is = h.1;
        }
