-- `advance` meets its contract. Assumes nothing.
use Rattle.fault_sweep.specs.Advance.{sweep_stepper}
use Rattle.fault_sweep.proofs.SweepLoop.{some_left, inside, steps_allowed, in_space, room, more_rows, few_steps, leaves, closes, finishes, returned}
use Rattle.portions.proofs.Loop.{came_refused}
use native.Mathlib.Omega.{arith}
use Prim.Native.Nat.{ℕ, ◌+◌, ◌≤◌}
use mathlib.Core.Path.{◌≡◌, refl, sym, ◌∙◌, ap}
use mathlib.Core.Bool.{cond}
use mathlib.Core.List.{List}
use lib.Dec.{leb}
use borrow.Author.Tests.{le-leb}
use Rattle.fault_sweep.proofs.sweep.Sweep.advance.Goals as goal

-- what is written where a whole row fits
with_room : (n len r x : ℕ) (m y rows : List ℕ) → n ≤ len → (r ≡ cond (leb n len) x 0) × (m ≡ cond (leb n len) y rows) → (r ≡ x) × (m ≡ y)
with_room n len r x m y rows h e = (e.0 ∙ ap (λ t. cond t x 0) (le-leb n len h), e.1 ∙ ap (λ t. cond t y rows) (le-leb n len h))

pub returns-then-is_broken : goal.returns-then-is_broken
returns-then-is_broken c =
    let r = returned (came_refused sweep_stepper _ _ _ (sym c.is_broken.ensures ∙ c.if-is_broken.true)) in
    record { answer = r.0; memory = r.1 }

pub overflow_sub-closes : goal.overflow_sub-closes
overflow_sub-closes c =
    omega (arith, some_left c.args.self (sym c.is_broken.ensures ∙ c.if-is_broken.false) _ c.total_steps-n.ensures)

pub loop-k-init : goal.loop-k-init
loop-k-init c =
    rw c.no_cable_ends-ends.ensures
    (inside c.args.self (sym c.is_broken.ensures ∙ c.if-is_broken.false) _ _ _ _ _ _ refl c.total_steps-n.ensures c.case_count-cases.ensures c.common_of-common.ensures)

pub overflow_sub-space : goal.overflow_sub-space
overflow_sub-space c = omega (arith, in_space _ _ _ c.loop-k.invariant c.loop-k-test.true _ refl c.if-left-allowed.true)

pub overflow_add-out : goal.overflow_add-out
overflow_add-out c =
    let put = with_room _ _ _ _ _ _ _ (room _ _ _ c.loop-k.invariant c.loop-k-test.true _ refl c.if-left-allowed.true) (c.put_case-out.ensures.answer, c.put_case-out.ensures.memory) in
    omega (arith, more_rows _ _ _ c.loop-k.invariant c.loop-k-test.true _ refl c.if-left-allowed.true c.closed_outcome-outcome.result c.put_case-out.result put.0, c.well_formed.1.1.0)

pub overflow_add-steps : goal.overflow_add-steps
overflow_add-steps c =
    omega (arith, steps_allowed _ _ _ c.loop-k.invariant c.loop-k-test.true _ refl c.if-left-allowed.true, c.ranges.allowance)

pub loop-k-preserved : goal.loop-k-preserved
loop-k-preserved c =
    let put = with_room _ _ _ _ _ _ _ (room _ _ _ c.loop-k.invariant c.loop-k-test.true _ refl c.if-left-allowed.true) (c.put_case-out.ensures.answer, c.put_case-out.ensures.memory) in
    closes _ _ _ c.loop-k.invariant c.loop-k-test.true _ refl c.if-left-allowed.true c.ends_held-ends.result c.ends_held-ends.ensures c.closed_outcome-outcome.result c.closed_outcome-outcome.ensures c.put_case-out.result put.0 _ put.1 _ c.open_case-c.ensures

pub overflow_add-end : goal.overflow_add-end
overflow_add-end c =
    let counted : (c.loop-k.made + c.steps_left_open-count.result ≤ 1000000) × (c.loop-k.steps + c.steps_left_open-count.result ≤ c.args.allowance) = few_steps _ _ _ c.loop-k.invariant c.loop-k-test.true _ refl c.if-left-allowed.false c.steps_left_open-count.result c.steps_left_open-count.ensures in
    omega (arith, counted.0)

pub overflow_add-steps_end : goal.overflow_add-steps_end
overflow_add-steps_end c =
    let counted : (c.loop-k.made + c.steps_left_open-count.result ≤ 1000000) × (c.loop-k.steps + c.steps_left_open-count.result ≤ c.args.allowance) = few_steps _ _ _ c.loop-k.invariant c.loop-k-test.true _ refl c.if-left-allowed.false c.steps_left_open-count.result c.steps_left_open-count.ensures in
    omega (arith, counted.1, c.ranges.allowance)

pub returns-else-left-allowed : goal.returns-else-left-allowed
returns-else-left-allowed c =
    let r = returned (leaves _ _ _ c.loop-k.invariant c.loop-k-test.true _ refl c.if-left-allowed.false c.steps_left_open-count.result c.steps_left_open-count.ensures c.make_steps-c_end.result c.make_steps-c_end.ensures) in
    record { answer = rw c.reason.ensures r.0; memory = r.1 }

pub returns : goal.returns
returns c =
    let r = returned (finishes _ _ _ c.loop-k.invariant c.loop-k-test.false) in
    record { answer = r.0; memory = r.1 }
