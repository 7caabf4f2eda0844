-- `steps_up_to_limit` meets its contract. Assumes nothing.
use native.Mathlib.Omega.{arith}
use Rattle.timing.proofs.Stepping.{past_limit, single_step, cast_whole, cast_few, one_more, no_more}
use Rattle.timing.proofs.steps.steps_up_to_limit.Goals as goal

pub returns-then-q : goal.returns-then-q
returns-then-q c = past_limit _ c.if-q.true

pub float_to_int-n : goal.float_to_int-n
float_to_int-n c = rw c.whole_part-w.ensures (cast_whole _ c.if-q-2.true c.if-q.false)

pub overflow_add-result-then-w-q : goal.overflow_add-result-then-w-q
overflow_add-result-then-w-q c = record { fits = rw c.whole_part-w.ensures (let h = cast_few _ c.if-q-2.true c.if-q.false in omega arith) }

pub returns-then-w-q : goal.returns-then-w-q
returns-then-w-q c = let e = c.whole_part-w.ensures in rw e (one_more _ c.if-q-2.true c.if-q.false (rw e at c.if-w-q.true))

pub returns-else-w-q : goal.returns-else-w-q
returns-else-w-q c = let e = c.whole_part-w.ensures in rw e (no_more _ c.if-q-2.true c.if-q.false (rw e at c.if-w-q.false))

pub returns : goal.returns
returns c = single_step _ c.if-q-2.false c.if-q.false
