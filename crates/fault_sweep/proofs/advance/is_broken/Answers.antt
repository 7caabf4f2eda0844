-- `is_broken` meets its contract. Assumes nothing.
use Rattle.rules.specs.Studies.{sweep_refusal}
use Rattle.rules.proofs.Outcomes.{not_nought, nought_at}
use Rattle.rule_claims.proofs.Claims.{accepted_claims}
use Rattle.timing.specs.Steps.{steps_of}
use Rattle.timing.proofs.Claims.{step_claims}
use Rattle.fault_sweep.specs.Advance.{sweep_broken}
use borrow.Author.Tests.{eq-eqb, ne_eqb}
use mathlib.Core.Path.{◌≡◌, sym, ◌∙◌}
use Rattle.fault_sweep.proofs.advance.is_broken.Goals as goal

pub returns-then-is_err : goal.returns-then-is_err
unfolding sweep_broken
returns-then-is_err c =
    let e = not_nought c.check_sweep.result (sym c.is_err.ensures.value ∙ c.if-is_err.true) in
    rw (ne_eqb (sweep_refusal c.args.s.grid c.args.s.order) 0 (λ z. e (c.check_sweep.ensures ∙ z)))

pub returns : goal.returns
unfolding sweep_broken
returns c =
    let a = c.args.s in
    let z : sweep_refusal a.grid a.order ≡ 0 = sym c.check_sweep.ensures ∙ nought_at c.check_sweep.result (sym c.is_err.ensures.value ∙ c.if-is_err.false) in
    rw (c.total_steps.ensures, step_claims.counted (steps_of a.grid) (accepted_claims.sweep a.grid a.order z), c.case_count-cases.ensures, eq-eqb (sweep_refusal a.grid a.order) 0 z)
