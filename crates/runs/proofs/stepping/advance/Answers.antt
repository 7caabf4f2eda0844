-- `advance` meets its contract. Assumes nothing.
use Rattle.runs.specs.Kinds.{run_stepper}
use Rattle.runs.proofs.Turns.{inside, position, leaves, runs_out, few, goes, returned}
use Rattle.portions.proofs.Loop.{came_refused}
use native.Mathlib.Omega.{arith}
use mathlib.Core.Path.{sym, ◌∙◌}
use Rattle.runs.proofs.stepping.advance.Goals as goal

pub returns-then-is_refused : goal.returns-then-is_refused
returns-then-is_refused g c =
    let r = returned g.R.Run.kind (came_refused (run_stepper g.R.Run.kind) _ _ _ (sym c.is_refused.ensures ∙ c.if-is_refused.true)) in
    record { answer = r.0; memory = r.1 }

pub loop-steps-init : goal.loop-steps-init
loop-steps-init g c =
    let taken = sym c.is_refused.ensures ∙ c.if-is_refused.false in
    (inside g.R.Run.kind _ _ _ _ _ _ taken (c.plan-plan.ensures.ready taken) (rw (c.total_steps-n.ensures, c.grid-g.ensures)) (rw (c.record_length-size.ensures, c.grid-g.ensures)) (rw (c.record_counts-counts.ensures, c.grid-g.ensures)), c.plan-plan.ensures.planned taken)

pub returns-then-ended-full : goal.returns-then-ended-full
returns-then-ended-full g c =
    let r = returned g.R.Run.kind (leaves _ c.loop-steps.invariant.0 c.steps_made-made.result c.steps_made-made.ensures c.is_recorded-recorded.result c.is_recorded-recorded.ensures c.loop-steps-test.true c.if-ended-full.true) in
    record { answer = rw c.reason.ensures r.0; memory = r.1 }

pub overflow_mul-size : goal.overflow_mul-size
overflow_mul-size g c = omega (arith, position _ c.loop-steps.invariant.0, c.well_formed)

pub loop-steps-preserved : goal.loop-steps-preserved
loop-steps-preserved g c =
    let p = c.put_if_recorded-out.ensures in
    let is_few = few _ c.loop-steps.invariant.0 _ c.steps_made-made.ensures _ c.is_recorded-recorded.ensures c.loop-steps-test.true c.if-ended-full.false in
    let s = c.step.ensures.next c.loop-steps.invariant.1 is_few in
    (goes _ c.loop-steps.invariant.0 _ c.steps_made-made.ensures _ c.is_recorded-recorded.ensures c.loop-steps-test.true c.if-ended-full.false _ s.next s.grid s.counted _ c.state.ensures _ p.answer _ p.memory, s.planned)

pub returns : goal.returns
returns g c =
    let r = returned g.R.Run.kind (runs_out _ c.loop-steps.invariant.0 c.steps_made.result c.steps_made.ensures c.loop-steps-test.false) in
    record { answer = rw c.reason-2.ensures r.0; memory = r.1 }
