-- `breaker_outside` meets its contract. Assumes nothing.
use borrow.Author.Rules.{rules}
use Rattle.lists.proofs.Scanning.{passing_short, length_cut, unmapped}
use Rattle.part_checks.specs.PartChecks.{breaker_ok}
use Rattle.rule_tests.specs.Rules.{breaker_outside}
use Rattle.rule_tests.proofs.tests.breaker_outside.Goals as goal

pub returns : goal.returns
unfolding breaker_outside
returns c = rw (c.first_bad_breaker.ensures, length_cut c.args.g.breakers _ _ _ (search (rules, unmapped)) c.of.ensures) (passing_short breaker_ok _)
