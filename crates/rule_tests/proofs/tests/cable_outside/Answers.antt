-- `cable_outside` meets its contract. Assumes nothing.
use borrow.Author.Rules.{rules}
use Rattle.lists.proofs.Scanning.{passing_short, length_cut, unmapped}
use Rattle.part_checks.specs.PartChecks.{cable_ok}
use Rattle.rule_tests.specs.Rules.{cable_outside}
use Rattle.rule_tests.proofs.tests.cable_outside.Goals as goal

pub returns : goal.returns
unfolding cable_outside
returns c = rw (c.first_bad_cable.ensures, length_cut c.args.g.cables _ _ _ (search (rules, unmapped)) c.of.ensures) (passing_short cable_ok _)
