-- `detect_fault` meets its contract. Assumes nothing.
use Rattle.detection.proofs.Claims.{detection_claims}
use Rattle.rules.specs.Studies.{number_of}
use Rattle.rule_claims.proofs.Sizes.{size_claims}
use mathlib.Core.Path.{sym, ◌∙◌}
use Rattle.detection.proofs.detect.detect_fault.Goals as goal

pub returns-clause-answer : goal.returns-clause-answer
unfolding number_of
returns-clause-answer c =
    let z = sym c.in_ok-check_detection.ensures in
    let few = size_claims.detection c.args.g z in c.detects.ensures ∙ rw (c.rated_voltages-rated.ensures, detection_claims.accepted c.args.g c.args.state c.args.prev z, detection_claims.by_table c.args.g c.args.state c.args.prev few.stations few.cables)
