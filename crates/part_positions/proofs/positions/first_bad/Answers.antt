-- `first_bad` meets its contract. Assumes nothing.
use mathlib.Core.Path.{sym, ap, ◌∙◌}
use native.Mathlib.Omega.{arith}
use lib.ListN.{length}
use lib.Seq.{take_all}
use Rattle.lists.specs.Scans.{every, passing}
use Rattle.lists.proofs.Scanning.{passing_at, passing_all}
use Rattle.part_positions.proofs.positions.first_bad.Goals as goal

pub returns-then-not-accepts : goal.returns-then-not-accepts
returns-then-not-accepts g c = λ ok same.
    sym (ap (passing ok) (sym (take_all (length c.args.parts.now) c.args.parts.now (omega arith)))
    ∙ passing_at ok _ c.args.parts.now c.loop-i.i (length c.args.parts.now) (omega arith) (omega arith) (c.loop-i.invariant ok same) (sym (same _ _ c.if-not-accepts.ensures ∙ ap ok c.index-parts-i.is)))

pub returns : goal.returns
returns g c = λ ok same.
    sym (passing_all ok c.args.parts.now (sym (ap (every ok) (take_all c.loop-i.i c.args.parts.now (omega arith))) ∙ c.loop-i.invariant ok same))
