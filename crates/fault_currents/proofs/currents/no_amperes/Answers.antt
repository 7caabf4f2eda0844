-- `no_amperes` meets its contract. Assumes nothing.
use mathlib.Core.Path.{◌≡◌, sym}
use lib.ListN.{length}
use borrow.Author.Rules.{rules}
use Rattle.lists.specs.Tables.{tab}
use Rattle.lists.proofs.Scanning.{unmapped}
use Rattle.float64.specs.Constants.{nought}
use Rattle.lanes.proofs.Lanes.{replaced}
use Rattle.fault_currents.proofs.currents.no_amperes.Goals as goal

pub returns : goal.returns
unfolding tab
returns c = let long : length c.args.i.now ≡ 16 = search (rules, unmapped) in sym (replaced 16 (λ j. nought) c.args.i.now long)
