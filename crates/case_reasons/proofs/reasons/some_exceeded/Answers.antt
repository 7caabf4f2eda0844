-- `some_exceeded` meets its contract. Assumes nothing.
use Rattle.std.proofs.Common.{◌<◌, length, sym, ◌∙◌, arith}
use Rattle.lists.proofs.Scanning.{some_found, some_none}
use Rattle.case_reasons.proofs.Written.{exceeded_here}
use Rattle.case_reasons.proofs.reasons.some_exceeded.Goals as goal

pub returns-then-is_exceeded : goal.returns-then-is_exceeded
returns-then-is_exceeded c =
    let within : c.loop-b.b-index < length c.args.breakers.now = omega arith in
    sym (some_found _ _ c.loop-b.b-index within (exceeded_here c.args.breakers.now c.args.cable c.args.limit c.args.value c.loop-b.b-index _ within c.is_exceeded.ensures ∙ c.if-is_exceeded.true))

pub loop-b-preserved : goal.loop-b-preserved
loop-b-preserved c =
    some_none _ c.loop-b.b-index c.loop-b.invariant (exceeded_here c.args.breakers.now c.args.cable c.args.limit c.args.value c.loop-b.b-index _ (omega arith) c.is_exceeded.ensures ∙ c.if-is_exceeded.false)
