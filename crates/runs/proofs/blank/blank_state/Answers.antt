-- `blank_state` meets its contract. Assumes nothing.
use Rattle.lists.specs.Tables.{blank}
use mathlib.Core.Path.{refl}
use Rattle.runs.proofs.blank.blank_state.Goals as goal

pub returns : goal.returns
unfolding blank
returns c = refl
