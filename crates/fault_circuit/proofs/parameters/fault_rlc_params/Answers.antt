-- `fault_rlc_params` meets its contract. Assumes nothing.
use Prim.Native.Nat.{ℕ, zero, suc, min, ◌<◌}
use lib.Ieee.{Float}
use Rattle.float64.specs.Arithmetic.{sum_of}
use Rattle.std.proofs.lemmas.List.{get_or-take}
use native.Mathlib.Omega.{arith}
use lib.ListN.{length, get_or}
use Rattle.lists.proofs.Fills.{get_d_within}
use Rattle.grid.specs.Cables.{cut}
use Rattle.grid.specs.Simulator.{blank_station, blank_cable, stations_of}
use Rattle.grid.specs.declared.parts.ConverterStation.{ConverterStation}
use Rattle.grid.specs.declared.parts.DcCable.{DcCable}
use Rattle.grid.specs.declared.parts.DcFaultEvent.{DcFaultEvent}
use Rattle.grid.specs.declared.simulator.DcSwitchingSimulator.{DcSwitchingSimulator}
use Rattle.fault_circuit.specs.Parameters.{parameters_at, parameters_of, stations_capacitance}
use mathlib.Core.Path.{◌≡◌, refl, ap, ◌∙◌}
use Rattle.lists.proofs.Scanning.{length_cut, unmapped}
use borrow.Author.Rules.{rules}
use Rattle.fault_circuit.proofs.parameters.fault_rlc_params.Goals as goal

-- what stands at a place within an array does not depend on what stands for a place outside it
picked : (g : DcSwitchingSimulator) (f : DcFaultEvent) (d : DcCable) (e : ConverterStation) → length g.cables ≡ 64 → length g.stations ≡ 32
    → parameters_at (get_or g.cables (cut (min g.n_cables 64) f.location_cable_id) d) (get_or g.stations (cut (min g.n_stations 32) (get_or g.cables (cut (min g.n_cables 64) f.location_cable_id) d).from_station) e) (stations_capacitance g) f
    ≡ parameters_of g f
picked g f d e l m =
    rw (get_d_within g.cables (cut (min g.n_cables 64) f.location_cable_id) d blank_cable (omega arith))
    (let c = get_or g.cables (cut (min g.n_cables 64) f.location_cable_id) blank_cable in
    rw (get_d_within g.stations (cut (min g.n_stations 32) c.from_station) e blank_station (omega arith)))

-- the stations that there are, added up
added_same : (f h : ℕ → Float) (n : ℕ) → ((k : ℕ) → k < n → f k ≡ h k) → sum_of f n ≡ sum_of h n
added_same f h zero e = refl
added_same f h (suc n) e = rw (added_same f h n (λ k l. e k (omega arith)), e n (omega arith))

added : (g : DcSwitchingSimulator) → length g.stations ≡ 32 → sum_of (λ k. (get_or (stations_of g) k blank_station).sm_capacitance_uf) (length (stations_of g)) ≡ stations_capacitance g
added g long =
    let many = length_cut g.stations g.n_stations 32 _ long refl in
    rw (← many) (added_same _ _ (min g.n_stations 32) (λ k l. ap (λ (s : ConverterStation). s.sm_capacitance_uf) (get_or-take g.n_stations g.stations k blank_station (omega arith))))

pub returns : goal.returns
returns c =
    let g = c.args.g in
    let long : (length g.cables ≡ 64) × (length g.stations ≡ 32) = search (rules, unmapped) in
    c.parameters_at.ensures ∙ rw (c.capacitance_of.ensures, c.present_stations.ensures, added g long.1, c.cut_end-2.ensures, c.cut_end.ensures, c.of-m.ensures, c.of-n.ensures) (picked g c.args.fault _ _ long.0 long.1)
