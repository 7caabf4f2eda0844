-- `breaker_line` meets its contract. Assumes nothing.
use mathlib.Core.Path.{sym, ◌∙◌, ap}
use Rattle.sheet_lines.specs.Lines.{breaker_line}
use Rattle.sheet_lines.proofs.Right.{breaker_right}
use Rattle.sheet_lines.proofs.line.breaker_line.Goals as goal

pub returns-then-is_formed : goal.returns-then-is_formed
returns-then-is_formed c =
    let w = c.three_wholes-numbers.ensures in
    let x = c.four_reals-limits.ensures in
    breaker_right _ (sym c.is_formed.ensures ∙ c.if-is_formed.true) _ (rw (c.breaker_type_of.ensures, w, x)) _ _ (ap (λ y. y.third) w) (ap (λ y. y.second) x)

pub returns : goal.returns
unfolding breaker_line
returns c = rw (sym c.is_formed.ensures ∙ c.if-is_formed.false)
