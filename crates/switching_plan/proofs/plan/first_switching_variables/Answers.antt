-- `first_switching_variables` meets its contract. Assumes nothing.
use Rattle.std.proofs.lemmas.List.{get_or-take}
use native.Mathlib.Omega.{arith}
use borrow.Author.Rules.{rules}
use borrow.Author.Tests.{lt-ltb}
use lib.ListN.{length}
use Prim.Native.Nat.{ℕ, ◌+◌, ◌-◌, min}
use mathlib.Core.Logic.{⊎_elim}
use mathlib.Core.Path.{◌≡◌, refl, ◌∙◌}
use Rattle.lists.specs.Tables.{blank, padded}
use Rattle.lists.proofs.Fills.{padded_same}
use Rattle.lists.proofs.Scanning.{unmapped, length_cut}
use Rattle.lists.proofs.Counting.{lt_or_le}
use Rattle.float64.specs.Constants.{nought}
use Rattle.grid.specs.Simulator.{blank_cable, cables_of}
use Rattle.grid.specs.declared.simulator.DcSwitchingSimulator.{DcSwitchingSimulator}
use Rattle.switching_plan.specs.Switching.{driven, before_switching}
use Rattle.run_start.specs.Start.{rated_of}
use Rattle.switching_plan.proofs.plan.first_switching_variables.Goals as goal

-- the cables that there are have the currents that the array has
driven_alike : (g : DcSwitchingSimulator) (n : ℕ) → length g.cables ≡ 64
    → padded 96 (n + length (cables_of g)) (driven g.stations (cables_of g) n) nought ≡ padded 96 (n + min g.n_cables 64) (driven g.stations g.cables n) nought
driven_alike g n long =
    rw (← length_cut g.cables g.n_cables 64 (min g.n_cables 64) long refl)
    (padded_same 96 (n + min g.n_cables 64) _ _ nought
    (λ i h. ⊎_elim (λ l. rw (lt-ltb i n l)) (λ l. rw (get_or-take g.n_cables g.cables (i - n) blank_cable (omega arith))) (lt_or_le i n)))

pub drive_currents-requires : goal.drive_currents-requires
unfolding rated_of
drive_currents-requires c =
    let long : length c.args.g.cables ≡ 64 = search (rules, unmapped) in
    record {
      voltages = c.rated_voltages-y.ensures ∙ rw c.of-n.ensures;
      room = rw (c.present_cables.ensures, ← length_cut c.args.g.cables c.args.g.n_cables 64 (min c.args.g.n_cables 64) long refl) (omega (arith, c.of-n.result.fits));
    }

pub returns : goal.returns
unfolding before_switching blank
returns c =
    let long : length c.args.g.cables ≡ 64 = search (rules, unmapped) in
    rw (c.breakers_all.ensures, c.drive_currents.ensures, c.present_cables.ensures, driven_alike c.args.g c.of-n.result.value long, c.of-n.ensures)
