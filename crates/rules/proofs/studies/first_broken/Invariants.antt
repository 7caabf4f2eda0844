-- `first_broken` meets its contract. Assumes nothing.
use mathlib.Core.Path.{◌≡◌}
use mathlib.Core.List.{map}
use lib.ListN.{drop}
use Rattle.rules.specs.Studies.{broken, first, rule_number}
use Rattle.rules.proofs.studies.first_broken.Given as goal

-- the rules passed by are not broken
abbrev pub invariant-loop-rule : goal.invariant-loop-rule
invariant-loop-rule l = first (broken l.g l.event_outside) (map rule_number l.order) ≡ first (broken l.g l.event_outside) (map rule_number (drop l.rule-index l.order))
