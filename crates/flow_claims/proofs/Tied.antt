-- The claims speak of what the code returns: what a caller learns from the contract of `solve_dc_power_flow`, as Rattle reads its clauses, gives the claim of the result.
-- Assumes nothing.
use Prim.Native.Nat.{ℕ, ◌≤◌, ◌<◌}
use mathlib.Core.Path.{◌≡◌, sym, ap, ◌∙◌}
use mathlib.Core.Bool.{true, false}
use lib.ListN.{get_or}
use Rattle.std.specs.Prelude.{Ok, Err}
use Rattle.std.specs.Result.{result_unwrap_or}
use Rattle.std.proofs.lemmas.Result.{IfOk-at_ok}
use contract.Lifetimes.{Lfts}
use borrow.Fn.World.{ArgsD, ResD}
use borrow.Fn.Kinds.{ended_of}
use denote.Triple.Clauses.{AtExit}
use Rattle.float64.specs.Constants.{nought}
use Rattle.rules.specs.Studies.{rule_number, flow_refusal}
use Rattle.rules.specs.declared.studies.Refusal.{Refusal}
use Rattle.rules.proofs.Outcomes.{err_at, accepted_at, unwrapped}
use Rattle.converter.specs.Point.{blank_point}
use Rattle.power_flow.specs.declared.flow.DcGridSolution.{DcGridSolution}
use Rattle.power_flow.specs.Flow.{blank_solution, flow_answer}
use Rattle.flow_claims.specs.Claims.{AnswerStops, AnswerSpent}
use Rattle.flow_claims.proofs.Claims.{answer_claims}
use Rattle.power_flow.specs.contracts.solve_dc_power_flow as solve-contract
use Rattle.power_flow.proofs.solve_dc_power_flow.Kinds as solve-kinds
use Rattle.power_flow.proofs.solve_dc_power_flow.Reads as solve-reads

module _ (κs : Lfts 0) (a : ArgsD solve-contract.signature κs) (r : ResD solve-contract.signature κs) (e : AtExit (ended_of 0 solve-kinds.ps solve-kinds.r) κs) where
  module _ (h : solve-reads.Learnt κs a r e) where
    -- a refused grid has no solution, only the refusal of its rule
    pub solve_refused : (refusal : Refusal) → flow_refusal a.0 ≡ rule_number refusal → r ≡ Err refusal
    solve_refused refusal d = err_at r refusal (h.0 ∙ d)

    -- with zeros in the place of the solution that it does not have
    pub solve_unwrapped : result_unwrap_or r blank_solution ≡ flow_answer a.0
    solve_unwrapped = unwrapped r _ blank_solution h.1 (λ n. answer_claims.refused a.0 (λ z. n (h.0 ∙ z)))

    module _ (s : DcGridSolution) (solved : r ≡ Ok s) where
      accepted : flow_refusal a.0 ≡ 0
      accepted = sym h.0 ∙ accepted_at solved

      is : s ≡ flow_answer a.0
      is = IfOk-at_ok (λ x. x ≡ flow_answer a.0) solved h.1

      -- the answer stops in the first pass that meets the tolerance, and has its number and voltages
      pub solve_stops : s.converged ≡ true → AnswerStops a.0 s
      solve_stops c = rw is (answer_claims.stops a.0 accepted (ap (λ (x : DcGridSolution). x.converged) (sym is) ∙ c))

      -- or none of 50 passes meets it
      pub solve_spent : s.converged ≡ false → AnswerSpent a.0 s
      solve_spent c = rw is (answer_claims.spent a.0 accepted (ap (λ (x : DcGridSolution). x.converged) (sym is) ∙ c))

      pub solve_passes : (1 ≤ s.iterations) × (s.iterations ≤ 50)
      solve_passes = rw is (answer_claims.passes a.0 accepted)

      pub solve_one_station : a.0.n_stations ≡ 1 → (s.converged ≡ true) × (s.iterations ≡ 1)
      solve_one_station n = rw is (answer_claims.one_station a.0 accepted n)

      pub solve_no_station : (k : ℕ) → a.0.n_stations ≤ k → k < 32 → get_or s.operating_points k blank_point ≡ blank_point
      solve_no_station k l m = rw is (answer_claims.no_station_lem a.0 k l m)

      pub solve_no_cable : (k : ℕ) → a.0.n_cables ≤ k → k < 64 → get_or s.cable_losses_mw k nought ≡ nought
      solve_no_cable k l m = rw is (answer_claims.no_cable_lem a.0 k l m)
