-- `case_end` meets its contract. Assumes nothing.
use Rattle.case_ends.proofs.Ways.{lasting_way}
use Rattle.case_ends.proofs.ends.case_end.Goals as goal

pub returns : goal.returns
returns c =
    lasting_way c.args.plan c.args.first c.args.window c.args.c c.if-v.false c.fault_sums-sums.ensures c.is_detected_within-detected.ensures c.outcome_from.ensures
