-- `start` meets its contract. Assumes nothing.
use Rattle.sheet_bytes.specs.Bytes.{start_of}
use Rattle.sheet_bytes.proofs.bytes.start.Goals as goal

pub returns : goal.returns
unfolding start_of
returns c = rw c.empty_sheet.ensures
