-- `some_exceeded` meets its contract. Assumes nothing.
use Rattle.std.proofs.Common.{◌≡◌, false}
use Rattle.lists.specs.Scans.{some}
use Rattle.case_reasons.specs.Reasons.{exceeded_by}
use Rattle.case_reasons.proofs.reasons.some_exceeded.Given as goal

abbrev pub invariant-loop-b : goal.invariant-loop-b
invariant-loop-b l = some l.b-index (exceeded_by l.breakers l.cable l.limit l.value) ≡ false
