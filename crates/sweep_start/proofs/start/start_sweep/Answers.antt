-- `start_sweep` meets its contract. Assumes nothing.
use borrow.Author.Rules.{rules}
use Rattle.std.proofs.lemmas.Result.{err_from_is_err_and}
use Rattle.lists.proofs.Scanning.{unmapped}
use Rattle.rules.specs.Studies.{rule_number, number_of, start_refusal}
use Rattle.rules.proofs.Outcomes.{not_nought}
use Rattle.rule_claims.proofs.Claims.{refusal_claims}
use Rattle.power_flow.specs.declared.flow.DcGridSolution.{DcGridSolution}
use Rattle.power_flow.specs.Flow.{solution_of}
use Rattle.sweep_start.specs.Start.{started_sweep}
use Rattle.sweep_start.proofs.Accepted.{flow-accepted}
use Rattle.sweep_start.proofs.Fresh.{flow_is, fresh_is}
use lib.ListN.{length}
use mathlib.Core.Bool.{true, false, not}
use mathlib.Core.Path.{◌≡◌, sym, ap, ◌∙◌}
use Rattle.sweep_start.proofs.start.start_sweep.Goals as goal

pub returns : goal.returns
unfolding started_sweep number_of
returns c =
    let long : length c.args.g.cables ≡ 64 = search (rules, unmapped) in
    let z = sym c.in_ok-check_sweep.ensures in
    let flow : c.in_ok-flow.flow ≡ solution_of c.args.g = c.in_ok-flow.ensures.solution ∙ flow_is c.args.g c.args.order z in
    let off : not (solution_of c.args.g).converged ≡ false = sym (ap (λ (x : DcGridSolution). not x.converged) flow) ∙ c.if-not-flow.false in
    let none : start_refusal c.args.g c.args.order (not (solution_of c.args.g).converged) ≡ 0 = refusal_claims.start_last c.args.g c.args.order (not (solution_of c.args.g).converged) z ∙ rw off in
    record { refusal = sym none; answer = rw (none, c.first_open_case.ensures, flow) (sym (fresh_is c.args.g c.args.order z long (solution_of c.args.g))) }

pub returns-then-not-flow-clause-refusal : goal.returns-then-not-flow-clause-refusal
unfolding number_of rule_number
returns-then-not-flow-clause-refusal c =
    let z = sym c.in_ok-check_sweep.ensures in
    let flow : c.in_ok-flow.flow ≡ solution_of c.args.g = c.in_ok-flow.ensures.solution ∙ flow_is c.args.g c.args.order z in
    let on : not (solution_of c.args.g).converged ≡ true = sym (ap (λ (x : DcGridSolution). not x.converged) flow) ∙ c.if-not-flow.true in
    sym (refusal_claims.start_last c.args.g c.args.order (not (solution_of c.args.g).converged) z ∙ rw on)

pub returns-in_err-check_sweep-clause-refusal : goal.returns-in_err-check_sweep-clause-refusal
unfolding number_of
returns-in_err-check_sweep-clause-refusal c =
    let refused = not_nought c.check_sweep.result (rw c.in_err-check_sweep.was) in
    let other = refusal_claims.start_earlier c.args.g c.args.order (not (solution_of c.args.g).converged) (λ z. refused (c.check_sweep.ensures ∙ z)) in
    let p = err_from_is_err_and c.from_residual.result c.from_residual.ensures.1 in rw (p.1, p.2) (c.in_err-check_sweep.ensures ∙ sym other)

-- what a sweep's rules accept, the flow's accept
pub returns-in_err-flow-clause-refusal : goal.returns-in_err-flow-clause-refusal
unfolding number_of
returns-in_err-flow-clause-refusal c =
    let refused = not_nought c.solve_dc_power_flow.result (rw c.in_err-flow.was) in
    absurd (refused (c.solve_dc_power_flow.ensures.refusal ∙ flow-accepted c.args.g c.args.order (sym c.in_ok-check_sweep.ensures)))
