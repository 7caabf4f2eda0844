-- `with_station` meets its contract. Assumes nothing.
use borrow.Author.Tests.{lt-ltb, le-ltb}
use Rattle.sheet_parts.specs.Parts.{station_taken}
use Rattle.sheet_parts.proofs.parts.with_station.Goals as goal

pub returns-then-n-lt-MOST_STATIONS : goal.returns-then-n-lt-MOST_STATIONS
unfolding station_taken
returns-then-n-lt-MOST_STATIONS c = rw (lt-ltb _ _ c.if-n-lt-MOST_STATIONS.true, c.counted_on.ensures)

pub returns-else-n-lt-MOST_STATIONS : goal.returns-else-n-lt-MOST_STATIONS
unfolding station_taken
returns-else-n-lt-MOST_STATIONS c = rw (le-ltb _ _ c.if-n-lt-MOST_STATIONS.false, c.counted_on.ensures)
