-- `cable_ends` meets its contract. Assumes nothing.
use Rattle.std.proofs.Common.{ap, ◌∙◌}
use Rattle.lists.specs.Tables.{blank}
use Rattle.lists.proofs.Counting.{at_end_lem}
use Rattle.lists.proofs.Fills.{upto}
use Rattle.closed_cases.specs.Cables.{blank_site, site_at}
use Rattle.closed_cases.proofs.AllSteps.{cable_with, all_sites}
use Rattle.closed_cases.proofs.cable.cable_ends.Goals as goal

pub returns : goal.returns
returns c =
    let all = at_end_lem (λ k. upto k (site_at c.args.common c.args.cable) (blank 11 blank_site)) c.loop-tenth.auto.tenth-end c.loop-tenth-test.false c.loop-tenth.invariant in
    ap (cable_with c.args.cable) (all ∙ all_sites (site_at c.args.common c.args.cable))
