-- `has_stopped` meets its contract. Assumes nothing.
use Rattle.taken_lines.specs.Taken.{stopped_at}
use Rattle.taken_lines.proofs.taken.has_stopped.Goals as goal

pub returns : goal.returns
unfolding stopped_at
returns c = rw c.is_some.ensures
