use mathlib.Core.Path.{sym, ◌∙◌, ap}
use mathlib.Core.List.{foldl}
use native.Mathlib.Omega.{arith}
use Rattle.std.specs.Prelude.{Some}
use lib.ListN.{take, length-take}
use lib.Seq.{take_all}
use Rattle.field_columns.specs.Scanning.{scan_of, answer_of}
use Rattle.field_columns.specs.declared.scan.Scan.TheVariants.{Spaces}
use Rattle.field_columns.proofs.Limits.{fold_roomy}
use Rattle.field_columns.proofs.Shape.{shape, stopped}
use Rattle.field_columns.proofs.scan.scanned.Goals as goal

pub scan_step-requires : goal.scan_step-requires
scan_step-requires c = let l = c.loop-b in fold_roomy (take l.b-index c.args.columns.now) l.s (simp length-take (omega arith)) l.invariant

pub returns-in_err-s : goal.returns-in_err-s
returns-in_err-s c = let l = c.loop-b in c.from_residual.ensures ∙ stopped c.args.columns.now l.b-index l.s c.requires (omega arith) l.invariant (sym c.scan_step.ensures ∙ c.in_err-s.was)

pub returns : goal.returns
returns c =
    let cs = c.args.columns.now in
    c.answer.ensures ∙ ap answer_of c.loop-b.invariant ∙ ap (λ bs. answer_of (foldl scan_of (Some Spaces) bs)) (take_all c.loop-b.b-index cs (omega arith)) ∙ shape cs c.requires
