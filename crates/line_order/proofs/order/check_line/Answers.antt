-- `check_line` meets its contract. Assumes nothing.
use borrow.Author.Tests.{eq-eqb, ne_eqb, lt-ltb, le-ltb, le-leb, lt-leb}
use Rattle.line_order.specs.Ordered.{in_order, line_refusal}
use Rattle.line_order.proofs.order.check_line.Goals as goal

pub returns-then-place-eq-NO_PLACE : goal.returns-then-place-eq-NO_PLACE
unfolding line_refusal in_order
returns-then-place-eq-NO_PLACE c = simp (eq-eqb _ _ c.if-place-eq-NO_PLACE.true)

pub returns-then-place-lines : goal.returns-then-place-lines
unfolding line_refusal in_order
returns-then-place-lines c = simp (ne_eqb _ _ c.if-place-eq-NO_PLACE.false, lt-ltb _ _ c.if-lines-lt2.true, eq-eqb _ _ c.if-place-lines.true)

pub returns-then-lines-lt2 : goal.returns-then-lines-lt2
unfolding line_refusal in_order
returns-then-lines-lt2 c = simp (ne_eqb _ _ c.if-place-eq-NO_PLACE.false, lt-ltb _ _ c.if-lines-lt2.true, ne_eqb _ _ c.if-place-lines.false)

pub returns-then-place-lt2 : goal.returns-then-place-lt2
unfolding line_refusal in_order
returns-then-place-lt2 c = simp (ne_eqb _ _ c.if-place-eq-NO_PLACE.false, le-ltb _ _ c.if-lines-lt2.false, lt-leb _ _ c.if-place-lt2.true)

pub returns-then-before-place : goal.returns-then-before-place
unfolding line_refusal in_order
returns-then-before-place c = simp (ne_eqb _ _ c.if-place-eq-NO_PLACE.false, le-ltb _ _ c.if-lines-lt2.false, le-leb _ _ c.if-place-lt2.false, le-leb _ _ c.if-before-place.true)

pub returns-else-before-place : goal.returns-else-before-place
unfolding line_refusal in_order
returns-else-before-place c = simp (ne_eqb _ _ c.if-place-eq-NO_PLACE.false, le-ltb _ _ c.if-lines-lt2.false, le-leb _ _ c.if-place-lt2.false, lt-leb _ _ c.if-before-place.false)
