-- `is_detected_within` meets its contract. Assumes nothing.
use Rattle.case_detection.proofs.Looks.{look, from_looks, detected_stays, cleared_stays}
use Prim.Native.Nat.{◌-◌}
use mathlib.Core.Path.{sym, ◌∙◌}
use Rattle.case_detection.proofs.detecting.is_detected_within.Goals as goal

pub returns-then-start : goal.returns-then-start
returns-then-start c =
    sym (from_looks c.args.plan (c.args.end - c.args.first) c.args.first c.args.start ∙ detected_stays c.args.plan (c.args.end - c.args.first) c.args.first (look c.args.start) c.if-start.true)

pub returns-then-v : goal.returns-then-v
returns-then-v c =
    sym (from_looks c.args.plan (c.args.end - c.args.first) c.args.first c.args.start ∙ cleared_stays c.args.plan (c.args.end - c.args.first) c.args.first (look c.args.start) c.if-v.true ∙ c.if-start.false)
