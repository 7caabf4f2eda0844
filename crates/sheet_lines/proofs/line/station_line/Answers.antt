-- `station_line` meets its contract. Assumes nothing.
use mathlib.Core.Path.{sym, ◌∙◌, ap}
use Rattle.sheet_lines.specs.Lines.{station_line}
use Rattle.sheet_lines.proofs.Right.{station_right}
use Rattle.sheet_lines.proofs.line.station_line.Goals as goal

pub returns-then-is_formed : goal.returns-then-is_formed
returns-then-is_formed c =
    let w = c.three_wholes-numbers.ensures in
    station_right _ (sym c.is_formed.ensures ∙ c.if-is_formed.true) _ (rw (c.topology_of.ensures, w, c.four_reals-outer.ensures, c.four_reals-inner.ensures)) _ _ (ap (λ x. x.first) w) (ap (λ x. x.second) w)

pub returns : goal.returns
unfolding station_line
returns c = rw (sym c.is_formed.ensures ∙ c.if-is_formed.false)
