-- `station_outside` meets its contract. Assumes nothing.
use borrow.Author.Rules.{rules}
use Rattle.lists.proofs.Scanning.{passing_short, length_cut, unmapped}
use Rattle.part_checks.specs.PartChecks.{station_ok}
use Rattle.rule_tests.specs.Rules.{station_outside}
use Rattle.rule_tests.proofs.tests.station_outside.Goals as goal

pub returns : goal.returns
unfolding station_outside
returns c = rw (c.first_bad_station.ensures, length_cut c.args.g.stations _ _ _ (search (rules, unmapped)) c.of.ensures) (passing_short station_ok _)
