-- `ended` meets its contract. Assumes nothing.
use mathlib.Core.Path.{◌∙◌}
use Rattle.sheet_bytes.proofs.Feeding.{ended_empty, ended_open}
use Rattle.sheet_bytes.proofs.bytes.ended.Goals as goal

pub returns-then-r-eq0 : goal.returns-then-r-eq0
returns-then-r-eq0 c = ended_empty _ c.if-r-eq0.true

pub returns : goal.returns
returns c = c.with_line.ensures ∙ ended_open _ c.if-r-eq0.false
