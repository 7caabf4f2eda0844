-- Worked examples of the definitions, at numbers at which another order of the operations gives another double. The answers are the published lines' in Rust's doubles. Assumes nothing.
use Rattle.std.proofs.Common.{◌≡◌, ℕ, [], ◌∷◌, refl}
use lib.Ieee.{Float, binary64, of_bits, of_int, round, add, mul, div, lt, eq, is_nan}
use Rattle.float64.specs.Constants.{nought, decimal}
use Rattle.float64.specs.Choice.{max_of}
use Rattle.grid.specs.declared.parts.ConverterTopology.{ConverterTopology}
use Rattle.grid.specs.declared.parts.ConverterTopology.TheVariants.{Lcc, TwoLevelVsc, Mmc, Hybrid}
use Rattle.grid.specs.declared.parts.DcFaultType.TheVariants.{PoleToPole}
use Rattle.grid.specs.declared.parts.ConverterStation.{ConverterStation}
use Rattle.grid.specs.declared.parts.DcCable.{DcCable}
use Rattle.grid.specs.declared.parts.DcFaultEvent.{DcFaultEvent}
use Rattle.network.specs.Capacitance.{own_capacitance, joined_capacitance, capacitance_at}
use Rattle.network.specs.Network.{inductance, farads, drain_at}

double : ℕ → Float
double n = of_bits binary64 n

-- of id 4
station : ConverterTopology → (kv mw uf : Float) → ConverterStation
station t kv mw uf =
    record {
      id = 4;
      topology = t;
      v_dc_rated_kv = kv;
      p_rated_mw = mw;
      x_transformer_pu = nought;
      scr = nought;
      control_angle_deg = nought;
      x_commutation_pu = nought;
      arm_inductance_mh = nought;
      sm_capacitance_uf = uf;
    }

mmc : (n : ℕ) → Float → ConverterStation
mmc n uf = station (Mmc n) (decimal 100 1) (decimal 50 1) uf

cable : (from to : ℕ) → (l c km : Float) → DcCable
cable from to l c km = record { id = 0; from_station = from; to_station = to; r_per_km = nought; l_per_km = l; c_per_km = c; length_km = km }

-- an MMC: the product, then the sixth; no submodules count as one; at least 0.01 µF, and 0.0601/6 is more
mmc-are
    : (capacitance_at [] (mmc 3 (decimal 7 10)) ≡ double 0x3fd6666666666665)
    × (capacitance_at [] (mmc 0 (decimal 7 10)) ≡ capacitance_at [] (mmc 1 (decimal 7 10)))
    × (capacitance_at [] (mmc 1 (decimal 599999 10000000)) ≡ double 0x3f847ae147ae147b)
    × (capacitance_at [] (mmc 1 (decimal 601 10000)) ≡ double 0x3f84839e3dfc733c)
unfolding double station mmc own_capacitance joined_capacitance max_of is_nan lt eq of_bits of_int round add mul div
mmc-are = (refl, refl, refl, refl)

-- the others: from the rated power and voltage, each at least 1
rated_are
    : (capacitance_at [] (station Lcc (decimal 9926 10) (decimal 2673 10) nought) ≡ double 0x3feba600a4cbc948)
    × (capacitance_at [] (station TwoLevelVsc (decimal 9926 10) (decimal 2673 10) nought) ≡ double 0x3feba600a4cbc948)
    × (capacitance_at [] (station Hybrid (decimal 9926 10) (decimal 2673 10) nought) ≡ double 0x3feba600a4cbc948)
    × (capacitance_at [] (station Lcc (decimal 3 10) (decimal 4 10) nought) ≡ double 0x40a8e16d3f97a4b0)
unfolding double station own_capacitance joined_capacitance max_of is_nan lt eq of_bits of_int round add mul div
rated_are = (refl, refl, refl, refl)

-- three cables at the station's id, at either end, added up in their order; one elsewhere
joined_is
    : joined_capacitance 4 (cable 4 0 nought (decimal 59 100) (decimal 891 10) ∷ cable 1 4 nought (decimal 67 100) (decimal 396 10) ∷ cable 0 1 nought (decimal 1 1) (decimal 1 1) ∷ cable 4 4 nought (decimal 83 100) (decimal 888 10) ∷ [])
    ≡ double 0x405319c28f5c28f6
unfolding double cable joined_capacitance max_of is_nan lt eq of_bits of_int round add mul div
joined_is = refl

-- in henries and in farads
units-are
    : (inductance (cable 0 1 (decimal 99 100) nought (decimal 426 10)) ≡ double 0x3fa597d49d7ba66a)
    × (inductance (cable 0 1 nought nought (decimal 426 10)) ≡ decimal 1 1000000000)
    × (farads [] (mmc 3 (decimal 945 10)) ≡ double 0x3f08c5c9a34ca0c2)
unfolding double station mmc cable own_capacitance joined_capacitance max_of is_nan lt eq of_bits of_int round add mul div
units-are = (refl, refl, refl)

-- the fault's resistance, at least a millionth of an ohm, times 1000
fault_of : Float → DcFaultEvent
fault_of r = record { fault_type = PoleToPole; location_cable_id = 0; location_fraction = decimal 3 10; fault_resistance = r; inception_time_ms = nought }

drains_are : ((drain_at (cable 2 5 nought nought nought) (fault_of (double 0x3ea77cf44765195f))).resistance ≡ double 0x3f50624dd2f1a9fc) × ((drain_at (cable 2 5 nought nought nought) (fault_of (double 0x3fe6666666666666))).resistance ≡ double 0x4085e00000000000)
unfolding double cable fault_of max_of is_nan lt eq of_bits round mul
drains_are = (refl, refl)

-- at both ends as given, and the fraction
drained_where : (f : Float) → ((drain_at (cable 2 5 nought nought nought) (fault_of f)).fraction ≡ (fault_of f).location_fraction) × ((drain_at (cable 2 5 nought nought nought) (fault_of f)).from ≡ 2) × ((drain_at (cable 2 5 nought nought nought) (fault_of f)).to ≡ 5)
unfolding cable
drained_where f = (refl, refl, refl)
