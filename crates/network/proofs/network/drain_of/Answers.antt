-- `drain_of` meets its contract. Assumes nothing.
use Rattle.network.specs.Network.{cable_count, drain_at, drain_of}
use Rattle.grid.specs.declared.parts.DcCable.{DcCable}
use Rattle.grid.specs.Simulator.{blank_cable}
use Rattle.lists.proofs.Scanning.{length_cut, unmapped}
use Rattle.std.proofs.Common.{◌≡◌, ◌<◌, ◌≤◌, length, get_or, ap, refl, ◌∙◌, arith, rules, le-ltb, lt-ltb}
use Rattle.std.proofs.lemmas.List.{get_or-take}
use Rattle.network.proofs.network.drain_of.Goals as goal

pub returns-in-Some : goal.returns-in-Some
unfolding drain_of
returns-in-Some c =
    let g = c.args.g in
    let k = c.args.fault.location_cable_id in
    let long : length g.cables ≡ 64 = search (rules, unmapped) in
    let many = length_cut g.cables g.n_cables 64 _ long refl in
    let e = c.present_cables.ensures in
    let found = c.in-Some.ensures.lookup.3 in
    let l : k < cable_count g.n_cables = rw (e, ← many) at found.0 in
    let same : _ ≡ get_or g.cables k blank_cable = found.1 blank_cable ∙ rw e (get_or-take g.n_cables g.cables k blank_cable (omega arith)) in
    rw (lt-ltb k _ l, c.max.ensures) (ap (λ (x : DcCable). drain_at x c.args.fault) same)

pub returns-in-None : goal.returns-in-None
unfolding drain_of
returns-in-None c =
    let g = c.args.g in
    let long : length g.cables ≡ 64 = search (rules, unmapped) in
    let many = length_cut g.cables g.n_cables 64 _ long refl in
    let l : cable_count g.n_cables ≤ c.args.fault.location_cable_id = rw (c.present_cables.ensures, ← many) at c.in-None.ensures.lookup.3 in
    c.no_drain.ensures ∙ rw (le-ltb c.args.fault.location_cable_id _ l)
